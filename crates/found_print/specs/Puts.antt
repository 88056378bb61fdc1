-- What is put behind a text.
use Rattle.std.specs.Prelude.{◌≡◌, ℕ, List, ◌++◌}
use Rattle.json_text.specs.Json.{Items, items_text}

-- items are put behind a text
pub record PutsItems (old new : List ℕ) (what : Items → Items) : Type 0 where
  pub is : (more : Items) → new ++ items_text more ≡ old ++ items_text (what more)

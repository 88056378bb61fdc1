-- The texts of runs, one after the other.
use Rattle.std.specs.Prelude.{ℕ, ◌+◌, List, [], ◌∷◌, ◌++◌, Option, take}
use Rattle.std.specs.Io.KnownBytes.{Appends}

-- the texts of some runs, of which the first has the number r
abbrev pub texts_from : {A : Type 0} → (ℕ → A → List ℕ) → ℕ → List A → List ℕ
texts_from text r [] = []
texts_from text r (a ∷ xs) = text r a ++ texts_from text (r + 1) xs

-- the texts of all runs, numbered from 1
abbrev pub texts : {A : Type 0} → (ℕ → A → List ℕ) → List A → List ℕ
texts text xs = texts_from text 1 xs

-- the texts of the first few runs were written
pub record WritesSome {A : Type 0} (old new : Option (List ℕ)) (text : ℕ → A → List ℕ) (xs : List A) : Type 0 where
  pub runs : ℕ
  pub written : Appends old new (texts text (take runs xs))

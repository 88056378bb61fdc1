-- Where the last thing that is seen stands.
use Rattle.std.specs.Prelude.{◌≡◌, ◌≤◌, ℕ, List, Bool, None, Some, slice_get}
use Rattle.label_code.specs.declared.code.Instr.{Instr}
use Rattle.steady_code.specs.Plain.{shown}

-- from a place on nothing is seen, and no jump leads back before it
abbrev pub IsQuietFrom : (ℕ → Bool) → List Instr → ℕ → Type 0
IsQuietFrom low image end = (a : ℕ) (i : Instr) → end ≤ a → slice_get image a ≡ Some i → shown low end i.work ≡ None

-- the least such place
pub record IsLastSeen (low : ℕ → Bool) (image : List Instr) (end : ℕ) : Type 0 where
  pub quiet : IsQuietFrom low image end
  pub least : (b : ℕ) → IsQuietFrom low image b → end ≤ b

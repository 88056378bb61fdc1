-- For each label the variables that have it.
use Rattle.std.specs.Prelude.{◌≡◌, ℕ, ◌<◌, ◌≤◌, Bool, false, eqb, List, length, slice_get, Option, None, Some}
use Rattle.label_lattice.specs.declared.label.Label.{Label}
use Rattle.label_infer.specs.declared.row.Row.{Row}
use Rattle.label_infer.specs.declared.variables.Variables.TheInside.{Inside}
use Rattle.label_infer.specs.Rows.{has_in}

abbrev pub is_label : Option Label → ℕ → Bool
is_label None l = false
is_label (Some a) l = eqb a.number l

-- whether a variable has the label with this number
abbrev pub has_label : List Label → ℕ → ℕ → Bool
has_label labels l x = is_label (slice_get labels x) l

-- the row with a number has the variables that are said to go with that number
abbrev pub Tell : List Row → (ℕ → ℕ → Bool) → Type 0
Tell rows p = (l : ℕ) (r : Row) → slice_get rows l ≡ Some r → (x : ℕ) → has_in r.words.items x ≡ p l x

pub record IsKeptVariables (v : Inside) : Type 0 where
  pub small : length v.labels.items ≤ 3072
  pub rows : length v.holders.items ≡ 256
  pub told : Tell v.holders.items (has_label v.labels.items)
  pub room : (x : ℕ) (a : Label) → slice_get v.labels.items x ≡ Some a → a.number < v.room
  pub end : v.room ≤ 256

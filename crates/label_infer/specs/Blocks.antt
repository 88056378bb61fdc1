-- Conditions in blocks of 64.
use Rattle.std.specs.Prelude.{◌≡◌, ℕ, ◌+◌, ◌*◌, ◌/◌, ◌<◌, ◌≤◌, Bool, true, false, List, length, slice_get, slice_index_or, Some}
use Rattle.label_infer.specs.declared.row.Row.{Row}
use Rattle.label_infer.specs.declared.constraints.Condition.{Condition}
use Rattle.label_infer.specs.declared.blocks.Blocks.{Blocks}
use Rattle.label_infer.specs.Rows.{has_in}
use Rattle.label_infer.specs.Sets.{has_of}

-- the row has each variable of a set
abbrev pub Includes : Row → (ℕ → Bool) → Type 0
Includes r has = (x : ℕ) → has x ≡ true → has_in r.words.items x ≡ true

-- each row has still what it had
abbrev pub Grow : List Row → List Row → Type 0
Grow old new = (k : ℕ) (r s : Row) → slice_get old k ≡ Some r → slice_get new k ≡ Some s → Includes s (has_in r.words.items)

-- the row of a block has the variables of each of the first n conditions in it
abbrev pub Cover : List Condition → ℕ → List Row → Type 0
Cover cs n rows = (i : ℕ) (c : Condition) (r : Row) → i < n → slice_get cs i ≡ Some c → slice_get rows (i / 64) ≡ Some r → Includes r (has_of c.have.variables)

-- each condition is in a block, whose row has its variables, and where none of a block was taken up, all wait
pub record AreBlocks (cs : List Condition) (ws : List Bool) (b : Blocks) : Type 0 where
  pub enough : length cs ≤ 64 * length b.rows.items
  pub few : 64 * length b.rows.items < length cs + 64
  pub fit : length b.taken.items ≡ length b.rows.items
  pub cover : Cover cs (length cs) b.rows.items
  pub idle : (i : ℕ) → i < length ws → slice_index_or b.taken.items (i / 64) true ≡ false → slice_index_or ws i false ≡ true

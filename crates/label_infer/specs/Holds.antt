-- What a worklist keeps.
use Rattle.std.specs.Prelude.{◌≡◌, ℕ, ◌<◌, ◌≤◌, length, slice_get, Some}
use Rattle.label_infer.specs.declared.worklist.Worklist.TheInside.{Inside}
use Rattle.label_infer.specs.declared.constraints.Condition.{Condition}
use Rattle.label_infer.specs.declared.constraints.Target.{Target}
use Rattle.label_infer.specs.declared.constraints.Target.TheVariants.{Variable, Level}
use Rattle.label_infer.specs.Work.{Work}
use Rattle.label_infer.specs.Blocks.{AreBlocks}

abbrev pub work_of : Inside → Work
work_of w =
    record { order = w.order.now; conditions = w.conditions.items; waits = w.waits.items; variables = w.variables; levels = w.levels.items }

-- the right side is the label of a variable or a mitigate that is there
abbrev pub IsThere : ℕ → ℕ → Target → Type 0
IsThere n m (Variable x) = x < n
IsThere n m (Level k) = k < m

pub record IsKeptWork (w : Inside) : Type 0 where
  pub fit : length w.waits.items ≡ length w.conditions.items
  pub in_blocks : AreBlocks w.conditions.items w.waits.items w.blocks
  pub cursor : w.cursor ≤ length w.waits.items
  pub small : length w.variables ≤ 3072
  pub targets : (i : ℕ) (c : Condition) → slice_get w.conditions.items i ≡ Some c → IsThere (length w.variables) (length w.levels.items) c.target

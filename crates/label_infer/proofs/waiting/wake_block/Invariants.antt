use Rattle.std.proofs.Common.{◌≡◌, ◌<◌, ◌≤◌, ℕ, length}
use Rattle.std.specs.Prelude.{◌||◌, Some, slice_get}
use Rattle.label_infer.specs.declared.constraints.Condition.{Condition}
use Rattle.label_infer.specs.Sets.{has_of}
use Rattle.label_infer.specs.Work.{waits_at}
use Rattle.label_infer.proofs.waiting.wake_block.Given as goal

abbrev pub invariant-loop-i : goal.invariant-loop-i
invariant-loop-i l = record {
  fit : length l.waits ≡ length l.fn.waits;
  before : (k : ℕ) → k < l.start → waits_at l.waits k ≡ waits_at l.fn.waits k;
  done : (k : ℕ) (c : Condition) → l.start ≤ k → k < l.i → slice_get l.conditions k ≡ Some c
      → waits_at l.waits k ≡ (waits_at l.fn.waits k || has_of c.have.variables l.x);
  rest : (k : ℕ) → l.i ≤ k → waits_at l.waits k ≡ waits_at l.fn.waits k;
}

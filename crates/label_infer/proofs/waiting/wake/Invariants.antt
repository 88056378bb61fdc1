use Rattle.std.proofs.Common.{◌≡◌, ◌*◌, ◌<◌, ◌≤◌, ℕ, length}
use Rattle.std.specs.Prelude.{◌||◌, Some, slice_get}
use Rattle.label_infer.specs.declared.constraints.Condition.{Condition}
use Rattle.label_infer.specs.Sets.{has_of}
use Rattle.label_infer.specs.Work.{waits_at}
use Rattle.label_infer.proofs.waiting.wake.Given as goal

abbrev pub invariant-loop-b : goal.invariant-loop-b
invariant-loop-b l = record {
  fit : length l.waits ≡ length l.fn.waits;
  done : (k : ℕ) (c : Condition) → k < l.b * 64 → slice_get l.conditions k ≡ Some c
      → waits_at l.waits k ≡ (waits_at l.fn.waits k || has_of c.have.variables l.x);
  rest : (k : ℕ) → l.b * 64 ≤ k → waits_at l.waits k ≡ waits_at l.fn.waits k;
}

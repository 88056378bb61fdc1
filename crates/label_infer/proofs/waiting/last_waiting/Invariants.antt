use Rattle.std.proofs.Common.{◌≡◌, ◌<◌, ◌≤◌, ℕ, false}
use Rattle.label_infer.specs.Work.{waits_at}
use Rattle.label_infer.proofs.waiting.last_waiting.Given as goal

abbrev pub invariant-loop-i : goal.invariant-loop-i
invariant-loop-i l = record {
  within : l.i ≤ l.end;
  done : (k : ℕ) → l.i ≤ k → k < l.end → waits_at l.waits k ≡ false;
}

abbrev pub decreases-loop-i : goal.decreases-loop-i
decreases-loop-i l = l.i

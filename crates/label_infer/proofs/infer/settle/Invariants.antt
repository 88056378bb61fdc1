use Rattle.std.proofs.Common.{◌≡◌, ◌+◌, ◌-◌, ℕ}
use Rattle.label_infer.specs.Work.{IsWorkOf, IsWithin, ChainsHaveUpTo, shares_of}
use Rattle.label_infer.proofs.infer.settle.Given as goal

abbrev pub invariant-loop : goal.invariant-loop
invariant-loop g l = record {
  work : IsWorkOf l.p l.work;
  within : (used : ℕ) × (l.steps ≡ l.initial.steps + used) × ((c : ℕ) → ChainsHaveUpTo l.p.order c → IsWithin l.work c used);
}

abbrev pub decreases-loop : goal.decreases-loop
decreases-loop g l = (shares_of l.p l.p.order.size + l.initial.steps) - l.steps

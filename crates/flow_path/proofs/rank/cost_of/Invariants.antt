use Rattle.std.proofs.Common.{◌≡◌, ◌≤◌, length, drop}
use Rattle.flow_path.specs.Costs.{cost_of}
use Rattle.flow_path.proofs.rank.cost_of.Given as goal

abbrev pub invariant-loop-i : goal.invariant-loop-i
invariant-loop-i l = record {
  within : l.i ≤ length l.chain;
  cost : l.cost ≡ cost_of (drop l.i l.chain);
  few : l.cost.faint ≤ l.cost.steps;
}

abbrev pub decreases-loop-i : goal.decreases-loop-i
decreases-loop-i l = l.i

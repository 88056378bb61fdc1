use Rattle.flow_path.specs.declared.cost.Cost.{Cost}
use Rattle.flow_path.specs.Steps.{conditions_of}
use Rattle.flow_path.specs.Distances.{IsKnownOf, AreFew, IsDistance, AreSides, count_none}
use Rattle.flow_path.proofs.settle.settled_in_rounds.Given as goal

abbrev pub invariant-loop-cost : goal.invariant-loop-cost
invariant-loop-cost l = record {
  known : IsKnownOf l.p l.target l.known;
  few : AreFew l.known.variables.items;
  distance : (now : Cost) × IsDistance l.p l.target l.known.variables.items now;
  sides : AreSides l.p l.target l.known.variables.items (conditions_of l.p) l.all;
}

abbrev pub decreases-loop-cost : goal.decreases-loop-cost
decreases-loop-cost l = count_none l.known.variables.items

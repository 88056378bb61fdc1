use Rattle.flow_path.specs.Distances.{IsLeastNew}
use Rattle.flow_path.proofs.settle.least_new.Given as goal

abbrev pub invariant-loop-y : goal.invariant-loop-y
invariant-loop-y l = record {
  least : IsLeastNew l.p l.known l.found l.y l.least;
}

use Rattle.flow_path.specs.Distances.{IsKnownOf}
use Rattle.flow_path.proofs.nearest.nearest.Given as goal

abbrev pub invariant-loop : goal.invariant-loop
invariant-loop l = record {
  known : IsKnownOf l.p l.target l.known;
}

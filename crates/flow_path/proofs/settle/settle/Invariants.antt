use Rattle.std.proofs.Common.{◌≡◌, length}
use Rattle.flow_path.specs.Distances.{IsSetBy}
use Rattle.flow_path.proofs.settle.settle.Given as goal

abbrev pub invariant-loop-y : goal.invariant-loop-y
invariant-loop-y l = record {
  fit : length l.known.items ≡ length l.initial.known.items;
  set : IsSetBy l.p l.initial.known.items l.found l.cost l.y l.known.items;
}

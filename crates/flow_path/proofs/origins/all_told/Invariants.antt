use Rattle.flow_path.specs.Collecting.{AreBelow}
use Rattle.flow_path.proofs.origins.all_told.Given as goal

abbrev pub invariant-loop-number : goal.invariant-loop-number
invariant-loop-number l = record {
  below : AreBelow l.p l.spot l.number l.told.items;
}

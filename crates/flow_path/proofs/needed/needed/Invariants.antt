use Rattle.std.proofs.Common.{length}
use Rattle.label_lattice.specs.Order.{lattice_of}
use Rattle.flow_path.specs.Collecting.{IsSifted}
use Rattle.flow_path.proofs.needed.needed.Given as goal

abbrev pub invariant-loop-origin : goal.invariant-loop-origin
invariant-loop-origin l = record {
  sifted : IsSifted (lattice_of l.lattice) l.fn.told.items l.left.items l.kept.items;
}

abbrev pub decreases-loop-origin : goal.decreases-loop-origin
decreases-loop-origin l = length l.left.items

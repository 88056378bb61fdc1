use Rattle.std.proofs.Common.{◌≡◌, ◌≤◌, length, drop}
use Rattle.label_lattice.specs.Order.{lattice_of}
use Rattle.flow_path.specs.Origins.{joined}
use Rattle.flow_path.proofs.needed.join_of.Given as goal

abbrev pub invariant-loop-i : goal.invariant-loop-i
invariant-loop-i l = record {
  within : l.i ≤ length l.origins;
  all : l.all.number ≡ joined (lattice_of l.lattice) (drop l.i l.origins);
}

abbrev pub decreases-loop-i : goal.decreases-loop-i
decreases-loop-i l = l.i

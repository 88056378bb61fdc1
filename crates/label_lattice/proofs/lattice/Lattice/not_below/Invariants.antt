use Rattle.std.proofs.Common.{◌≡◌, ◌≤◌}
use Rattle.label_lattice.specs.Order.{lattice_of, count_not_below}
use Rattle.label_lattice.proofs.lattice.Lattice.not_below.Given as goal

abbrev pub invariant-loop-number : goal.invariant-loop-number
invariant-loop-number l = (l.count ≡ count_not_below (lattice_of l.self) l.a.number l.number) × (l.count ≤ l.number)

use Rattle.std.proofs.Common.{◌≤◌}
use Rattle.label_lattice.specs.Order.{Order}
use Rattle.hardware.specs.Envs.{IsOfSome}
use Rattle.hardware.proofs.tests.first_wrong.Given as goal

abbrev pub invariant-loop-i : goal.invariant-loop-i
invariant-loop-i l = (order : Order) × (IsOfSome order l.env × (2 ≤ order.size))

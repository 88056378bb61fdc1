use Rattle.std.proofs.Common.{◌≤◌}
use Rattle.label_lattice.specs.Order.{Order}
use Rattle.part_tlb.proofs.tests.first_wrong.Given as goal

abbrev pub invariant-loop-i : goal.invariant-loop-i
invariant-loop-i g l = (order : Order) × (g.E.MachineEnv.serves order l.env × (2 ≤ order.size))

use Rattle.std.proofs.Common.{take}
use Rattle.label_lattice.specs.Tables.{IsClosure}
use Rattle.label_lattice.proofs.closure.closure.Given as goal

abbrev pub invariant-loop-a : goal.invariant-loop-a
invariant-loop-a l = IsClosure l.flows (take l.a-index l.pairs)

use Rattle.std.proofs.Common.{◌≡◌}
use Rattle.lab_steady.specs.Judged.{join_below}
use Rattle.lab_steady.proofs.judge.top.Given as goal

abbrev pub invariant-loop-number : goal.invariant-loop-number
invariant-loop-number l = l.top.number ≡ join_below l.lattice l.number

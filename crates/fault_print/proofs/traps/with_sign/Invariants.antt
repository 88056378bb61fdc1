use Rattle.std.proofs.Common.{◌≡◌, drop}
use Rattle.fault_print.specs.Traps.{with_sign}
use Rattle.fault_print.proofs.traps.with_sign.Given as goal

abbrev pub invariant-loop-sort : goal.invariant-loop-sort
invariant-loop-sort l = with_sign l.sign (drop l.sort-index l.sorts) ≡ with_sign l.sign l.sorts

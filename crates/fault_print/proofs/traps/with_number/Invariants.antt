use Rattle.std.proofs.Common.{◌≡◌, drop}
use Rattle.fault_print.specs.Traps.{with_number}
use Rattle.fault_print.proofs.traps.with_number.Given as goal

abbrev pub invariant-loop-sort : goal.invariant-loop-sort
invariant-loop-sort l = with_number (drop l.sort-index l.sorts) ≡ with_number l.sorts

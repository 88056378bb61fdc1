use Rattle.std.proofs.Common.{◌≡◌, drop}
use Rattle.fault_print.specs.Traps.{with_key}
use Rattle.fault_print.proofs.traps.with_key.Given as goal

abbrev pub invariant-loop-sort : goal.invariant-loop-sort
invariant-loop-sort l = with_key l.key (drop l.sort-index l.sorts) ≡ with_key l.key l.sorts

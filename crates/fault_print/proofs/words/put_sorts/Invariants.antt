use Rattle.std.proofs.Common.{◌≡◌, ◌++◌, drop}
use Rattle.fault_print.specs.Words.{sorts_text}
use Rattle.fault_print.proofs.words.put_sorts.Given as goal

abbrev pub invariant-loop-sort : goal.invariant-loop-sort
invariant-loop-sort l = l.out.items ++ sorts_text (drop l.sort-index l.sorts) ≡ l.initial.out.items ++ sorts_text l.sorts

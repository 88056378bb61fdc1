use Rattle.std.proofs.Common.{◌≡◌, ◌++◌, drop}
use Rattle.lab_texts.specs.Names.{after_blanks}
use Rattle.lab_runs.proofs.label.put_names.Given as goal

abbrev pub invariant-loop-number : goal.invariant-loop-number
invariant-loop-number l = l.out.items ++ after_blanks (drop l.number l.order.names) ≡ l.initial.out.items ++ after_blanks l.order.names

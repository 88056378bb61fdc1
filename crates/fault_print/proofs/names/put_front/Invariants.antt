use Rattle.std.proofs.Common.{◌≡◌, ◌++◌, drop}
use Rattle.fault_print.specs.Names.{front_names}
use Rattle.fault_print.proofs.names.put_front.Given as goal

abbrev pub invariant-loop-i : goal.invariant-loop-i
invariant-loop-i l = l.out.items ++ front_names l.text (drop l.i l.tokens) ≡ l.initial.out.items ++ front_names l.text l.tokens

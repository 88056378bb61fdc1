use Rattle.std.proofs.Common.{◌≡◌, ◌++◌, drop, false}
use Rattle.fault_print.specs.Names.{near_names}
use Rattle.fault_print.proofs.names.put_near.Given as goal

abbrev pub invariant-loop-i : goal.invariant-loop-i
invariant-loop-i l =
    l.out.items ++ near_names l.text l.word l.declared (drop l.i l.tokens) ≡ l.initial.out.items ++ near_names l.text l.word false l.tokens

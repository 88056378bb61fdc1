use Rattle.std.proofs.Common.{◌≡◌, drop, false}
use Rattle.fault_print.specs.Names.{has_variable}
use Rattle.fault_print.proofs.names.has_variable.Given as goal

abbrev pub invariant-loop-i : goal.invariant-loop-i
invariant-loop-i l = has_variable l.text l.word l.declared (drop l.i l.tokens) ≡ has_variable l.text l.word false l.tokens

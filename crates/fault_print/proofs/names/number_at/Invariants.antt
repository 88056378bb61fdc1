use Rattle.std.proofs.Common.{◌≡◌, ◌+◌, drop}
use Rattle.fault_print.specs.Names.{number_at}
use Rattle.fault_print.proofs.names.number_at.Given as goal

abbrev pub invariant-loop-i : goal.invariant-loop-i
invariant-loop-i l = number_at l.pos (drop l.i l.tokens) + l.i ≡ number_at l.pos l.tokens

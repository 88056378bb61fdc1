use Rattle.std.proofs.Common.{◌≡◌, drop}
use Rattle.fault_print.specs.Names.{in_front}
use Rattle.fault_print.proofs.names.in_front.Given as goal

abbrev pub invariant-loop-i : goal.invariant-loop-i
invariant-loop-i l = in_front l.text l.word (drop l.i l.tokens) ≡ in_front l.text l.word l.tokens

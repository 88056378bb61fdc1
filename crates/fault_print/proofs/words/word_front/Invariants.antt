use Rattle.std.proofs.Common.{◌≡◌, ◌++◌, drop, take}
use Rattle.fault_print.specs.Words.{word_front}
use Rattle.fault_print.proofs.words.word_front.Given as goal

abbrev pub invariant-loop-i : goal.invariant-loop-i
invariant-loop-i l = take l.i l.text ++ word_front (drop l.i l.text) ≡ word_front l.text

use Rattle.std.proofs.Common.{◌≡◌, ◌++◌, drop, take}
use Rattle.fault_print.specs.Marked.{line_front}
use Rattle.fault_print.proofs.marked.line_front.Given as goal

abbrev pub invariant-loop-i : goal.invariant-loop-i
invariant-loop-i l = take l.i l.text ++ line_front (drop l.i l.text) ≡ line_front l.text

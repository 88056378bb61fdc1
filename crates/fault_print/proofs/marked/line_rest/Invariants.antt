use Rattle.std.proofs.Common.{◌≡◌, drop}
use Rattle.fault_print.specs.Marked.{line_rest}
use Rattle.fault_print.proofs.marked.line_rest.Given as goal

abbrev pub invariant-loop-i : goal.invariant-loop-i
invariant-loop-i l = line_rest (drop l.i l.text) ≡ line_rest l.text

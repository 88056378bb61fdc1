use Rattle.std.proofs.Common.{◌≡◌, ◌-◌}
use Rattle.fault_print.specs.Marked.{lines_rest}
use Rattle.fault_print.proofs.marked.from_line.Given as goal

abbrev pub invariant-loop-passed : goal.invariant-loop-passed
invariant-loop-passed l = lines_rest (l.number - l._passed) l.rest ≡ lines_rest (l.number - 1) l.text

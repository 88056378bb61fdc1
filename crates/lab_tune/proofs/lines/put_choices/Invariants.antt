use Rattle.std.proofs.Common.{◌≡◌, ◌++◌, drop}
use Rattle.lab_tune.specs.Text.{choice_lines}
use Rattle.lab_tune.proofs.lines.put_choices.Given as goal

abbrev pub invariant-loop-interval : goal.invariant-loop-interval
invariant-loop-interval l =
    l.text.items ++ choice_lines l.runs (drop l.interval-index l.intervals) ≡ l.fn.text.items ++ choice_lines l.runs l.intervals

use Rattle.std.proofs.Common.{◌≡◌, ◌++◌, drop}
use Rattle.flow_print.specs.Lines.{steps_lines}
use Rattle.flow_print.proofs.print.put_steps.Given as goal

abbrev pub invariant-loop-step : goal.invariant-loop-step
invariant-loop-step l =
    let lines = steps_lines l.spelling.text.now l.spelling.tokens.now l.p in
    l.out.items ++ lines (drop l.step-index l.chain) l.first ≡ l.initial.out.items ++ lines l.chain l.first

use Rattle.std.proofs.Common.{ap, ◌∙◌, ◌++◌, arith}
use Rattle.lab_tune.proofs.Choices.{next_choice, all_choices}
use Rattle.lab_tune.proofs.lines.put_choices.Goals as goal

pub loop-interval-preserved : goal.loop-interval-preserved
loop-interval-preserved c =
    next_choice c.args.runs c.args.intervals.now c.loop-interval.interval-index
    record { first = 0; last = 0; things = 0; cost = 0; latest = 0 } c.loop-interval.text.items c.put.new.text.items _ c.loop-interval-test.true
    (c.in_ok-put.ensures ∙ ap (λ z. c.loop-interval.text.items ++ z) c.choice-line.ensures) c.loop-interval.invariant

pub returns : goal.returns
returns c =
    all_choices c.args.runs c.args.intervals.now c.loop-interval.interval-index c.loop-interval.text.items _ (omega (arith, c.loop-interval-test.false))
    c.loop-interval.invariant

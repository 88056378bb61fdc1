use Rattle.std.proofs.Common.{◌∙◌}
use Rattle.flow_print.proofs.Walked.{next_on}
use Rattle.flow_print.proofs.places.next_among.Goals as goal

pub loop-t-preserved : goal.loop-t-preserved
loop-t-preserved c = c.loop-t.invariant ∙ next_on c.args.text.now c.args.tokens.now c.args.name.now c.loop-t.t-index _ c.loop-t-test.true c.is_next.result
    c.if-is_next.false c.args.q c.is_next.ensures

use Rattle.std.proofs.Common.{◌∙◌, []}
use Rattle.flow_print.proofs.Walked.{spelled_on}
use Rattle.flow_print.proofs.places.spelled_among.Goals as goal

pub loop-t-preserved : goal.loop-t-preserved
loop-t-preserved c = c.loop-t.invariant ∙ spelled_on c.args.text.now c.args.tokens.now [] c.loop-t.t-index _ c.loop-t-test.true c.is_same.result
    c.if-is_same.false c.args.q c.is_same.ensures

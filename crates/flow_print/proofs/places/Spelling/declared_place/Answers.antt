use Rattle.std.proofs.Common.{◌∙◌}
use Rattle.flow_print.proofs.Walked.{declared_on}
use Rattle.flow_print.proofs.places.Spelling.declared_place.Goals as goal

pub loop-t-preserved : goal.loop-t-preserved
loop-t-preserved c =
    let s = c.args.self.now in
    c.loop-t.invariant
    ∙ declared_on s.text.now s.tokens.now c.args.name.now c.loop-t.t-index _ c.loop-t-test.true c.is_declared.result c.if-is_declared.false
    c.loop-t.after c.is_var-after.result c.is_declared.ensures c.is_var-after.ensures

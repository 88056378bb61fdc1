use Rattle.std.proofs.Common.{◌-◌, arith}
use Rattle.first_image.proofs.Placing.{none_yet, none_there, first_there}
use Rattle.first_image.proofs.place.place_of.Goals as goal

pub loop-next-preserved : goal.loop-next-preserved
loop-next-preserved c =
    none_yet c.args.image.now.instrs c.args.mark c.loop-next.next (c.loop-next.next - 1) c.at.result c.at-in-loop-next.result (omega arith)
    c.at.ensures c.at-in-loop-next.ensures c.if-estimates.ensures c.loop-next.invariant

pub returns : goal.returns
returns c =
    none_there c.args.image.now.instrs c.args.mark c.loop-next.next (omega (arith, c.len-next-end.ensures, c.loop-next-test.false)) c.loop-next.invariant

pub returns-then-estimates : goal.returns-then-estimates
returns-then-estimates c =
    first_there c.args.image.now.instrs c.args.mark (c.loop-next.next - 1) c.loop-next.next c.at.result c.at-in-loop-next.result (omega arith)
    c.at.ensures c.at-in-loop-next.ensures c.if-estimates.ensures c.loop-next.invariant

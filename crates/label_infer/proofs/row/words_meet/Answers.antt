use Rattle.std.proofs.Common.{arith}
use Rattle.label_infer.proofs.Bits.{meet_at, apart}
use Rattle.label_infer.proofs.row.words_meet.Goals as goal

pub returns : goal.returns
returns c =
    let end = c.loop-i-test.false in
    apart c.args.a.now c.args.b.now c.requires.full (λ k h. c.loop-i.invariant k (omega (arith, end, h)))

pub returns-then-overlap : goal.returns-then-overlap
returns-then-overlap c = meet_at c.args.a.now c.args.b.now c.loop-i.i c.if-overlap.ensures

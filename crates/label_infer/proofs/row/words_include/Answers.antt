use Rattle.std.proofs.Common.{arith}
use Rattle.label_infer.proofs.Bits.{union_has}
use Rattle.label_infer.proofs.row.words_include.Goals as goal

pub returns : goal.returns
returns c _ =
    let end = c.loop-i-test.false in
    union_has c.args.words.now c.args.other.now c.args.words.now c.requires.full c.requires.as_full c.requires.full
    (λ k h. c.loop-i.invariant k (omega (arith, end, h)))

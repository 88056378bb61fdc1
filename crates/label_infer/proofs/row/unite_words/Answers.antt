use Rattle.std.proofs.Common.{arith}
use Rattle.label_infer.proofs.Bits.{union_has}
use Rattle.label_infer.proofs.row.unite_words.Goals as goal

pub returns-clause-has : goal.returns-clause-has
returns-clause-has c =
    let end = c.loop-i-test.false in
    union_has c.args.words.now c.args.other.now c.loop-i.words c.requires.full c.requires.as_full c.loop-i.invariant.full
    (λ k h. c.loop-i.invariant.done k (omega (arith, end, h)))

use Rattle.fault_print.proofs.NameSteps.{in_at, in_on}
use Rattle.fault_print.proofs.names.in_front.Goals as goal

pub returns-then-eq : goal.returns-then-eq
returns-then-eq c =
    in_at c.args.text.now c.args.tokens.now c.loop-i.i _ c.loop-i-test.true c.args.word.now c.sort_in.result c.is_sign.result c.eq.result _
    c.word_at.result.now c.sort_in.ensures c.is_sign.ensures c.if-is_sign.false c.word_at.ensures c.eq.ensures c.if-eq.true c.loop-i.invariant

pub loop-i-preserved : goal.loop-i-preserved
loop-i-preserved c =
    in_on c.args.text.now c.args.tokens.now c.loop-i.i _ c.loop-i-test.true c.args.word.now c.sort_in.result c.is_sign.result c.eq.result _
    c.word_at.result.now c.sort_in.ensures c.is_sign.ensures c.if-is_sign.false c.word_at.ensures c.eq.ensures c.if-eq.false c.loop-i.invariant

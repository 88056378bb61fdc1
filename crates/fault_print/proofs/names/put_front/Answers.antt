use Rattle.fault_print.proofs.NameSteps.{front_on}
use Rattle.fault_print.proofs.names.put_front.Goals as goal

pub loop-i-preserved : goal.loop-i-preserved
loop-i-preserved c =
    front_on c.args.text.now c.args.tokens.now c.loop-i.i _ c.loop-i-test.true c.sort_in-sort.result c.is_sign.result c.is_name.result
    c.word_at.result.now c.loop-i.out.items c.put_listed.new.out.items _
    c.sort_in-sort.ensures c.is_sign.ensures c.if-is_sign.false c.is_name.ensures c.word_at.ensures c.in_ok-put_listed.ensures c.loop-i.invariant

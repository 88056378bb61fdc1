use Rattle.fault_print.proofs.NameSteps.{near_on}
use Rattle.fault_print.proofs.names.put_near.Goals as goal

pub loop-i-preserved : goal.loop-i-preserved
loop-i-preserved c =
    near_on c.args.text.now c.args.tokens.now c.loop-i.i _ c.loop-i-test.true c.args.word.now c.loop-i.declared c.is_key-declared.result c.is_listed.result
    c.sort_in.result c.word_at-name.result.now c.loop-i.out.items c.put_listed.new.out.items _
    c.word_at-name.ensures c.is_listed.ensures c.sort_in.ensures c.is_key-declared.ensures c.in_ok-put_listed.ensures c.loop-i.invariant

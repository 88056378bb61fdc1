use Rattle.found_print.proofs.Putting.{steps_on}
use Rattle.found_print.proofs.chain.put_steps.Goals as goal

pub loop-step-preserved : goal.loop-step-preserved
loop-step-preserved c =
    let s = c.args.spelling.now in
    steps_on s.text.now s.tokens.now c.args.p.now c.args.first.now c.args.chain.now c.loop-step.step-index _ c.loop-step.out.items
    c.put_step.new.out.items _ c.loop-step-test.true c.in_ok-put_step.ensures c.loop-step.invariant

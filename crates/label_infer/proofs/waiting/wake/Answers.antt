use Rattle.std.proofs.Common.{arith}
use Rattle.label_infer.proofs.Waking.{all_woken}
use Rattle.label_infer.proofs.waiting.wake.Goals as goal

pub returns : goal.returns
returns c =
    let end = c.loop-b-test.false in
    let enough = c.requires.blocks.enough in
    let n = c.len-b-end.ensures in
    let ok = c.args.blocks.now.rows.ok.0 in
    all_woken c.args.x c.args.conditions.now c.args.waits.now c.loop-b.waits c.requires.fit c.loop-b.invariant.fit
    (λ k d h e. c.loop-b.invariant.done k d (omega (arith, end, enough, n, ok, h)) e)

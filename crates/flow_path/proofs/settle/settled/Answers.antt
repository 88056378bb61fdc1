use Rattle.flow_path.proofs.Settling.{agreed_by}
use Rattle.flow_path.proofs.settle.settled.Goals as goal

pub returns-then-all_agree : goal.returns-then-all_agree
returns-then-all_agree c =
    agreed_by c.args.p.now c.args.target.now c.in_ok-known.known c.in_ok-all.all c.deref.result.now c.deref-2.result.now c.deref.ensures.value
    c.deref-2.ensures.value c.in_ok-known.ensures c.in_ok-all.ensures (c.all_agree.ensures c.if-all_agree.true)

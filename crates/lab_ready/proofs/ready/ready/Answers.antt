use Rattle.lab_why.proofs.FaultLemmas.{if_ok}
use Rattle.lab_ready.proofs.ReadyLemmas.{ready_put}
use Rattle.lab_ready.proofs.ready.ready.Goals as goal

pub returns : goal.returns
returns c =
    if_ok c.joined-2.result _ _ (λ v is. ready_put c.args.q.now c.program.result.now c.program-2.result.now c.args.starts c.commands.result c.mitigates.result
    c.number-runs.result c.bytes.result.now c.ready_line.result.now c.in_ok-rest.rest.items c.accepted-line.result c.bytes-2.result.now c.as_slice.result.now
    v.items c.program.ensures.program c.program-2.ensures.program c.commands.ensures c.mitigates.ensures c.number-runs.ensures c.bytes.ensures
    c.ready_line.ensures c.in_ok-rest.ensures c.accepted-line.ensures c.bytes-2.ensures c.as_slice.ensures.value is) c.joined-2.ensures

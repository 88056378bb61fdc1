use Rattle.timing_types.proofs.Whole.{collected}
use Rattle.timing_types.proofs.check.contexts.Goals as goal

pub returns : goal.returns
returns c =
    collected c.args.p.now c.program.result.now c.program-2.result.now c.lattice-order.result.now c.labels.result.now c.body.result.now c.bottom.result
    c.program.ensures.program c.program-2.ensures.program c.lattice-order.ensures c.labels.ensures c.body.ensures.body c.bottom.ensures.value
    c.new-pcs.result.items c.list_contexts.new.found.items c.new-pcs.ensures.items c.body.ensures.valid c.in_ok-list_contexts.ensures

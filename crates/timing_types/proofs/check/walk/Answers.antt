use Rattle.std.proofs.lemmas.Result.{err_from_is_err_and}
use Rattle.timing_types.proofs.Whole.{unbroken, walked, refused}
use Rattle.timing_types.proofs.check.walk.Goals as goal

pub returns-clause-typed : goal.returns-clause-typed
returns-clause-typed c =
    walked c.args.p.now c.program.result.now c.program-2.result.now c.lattice-order.result.now c.labels.result.now c.body.result.now c.bottom-bottom.result
    c.program.ensures.program c.program-2.ensures.program c.lattice-order.ensures c.labels.ensures c.body.ensures.body c.bottom-bottom.ensures.value
    c.in_ok-list_walk.field-0.1.number c.laws.ensures.lattice c.in_ok-list_walk.ensures.passes

pub returns-clause-whole : goal.returns-clause-whole
returns-clause-whole c =
    unbroken c.args.p.now c.program.result.now c.program-2.result.now c.lattice-order.result.now c.labels.result.now c.body.result.now c.bottom-bottom.result
    c.program.ensures.program c.program-2.ensures.program c.lattice-order.ensures c.labels.ensures c.body.ensures.body c.bottom-bottom.ensures.value
    c.in_ok-list_walk.field-0.1.number c.in_ok-list_walk.ensures.passes

pub returns-in_err-list_walk-clause-refused : goal.returns-in_err-list_walk-clause-refused
returns-in_err-list_walk-clause-refused c =
    let b = err_from_is_err_and c.from_residual.result c.from_residual.ensures.1 in
    let r =
    refused c.args.p.now c.program.result.now c.program-2.result.now c.lattice-order.result.now c.labels.result.now c.body.result.now c.bottom-bottom.result
    c.program.ensures.program c.program-2.ensures.program c.lattice-order.ensures c.labels.ensures c.body.ensures.body c.bottom-bottom.ensures.value
    c.in_err-list_walk.field-0.0 c.laws.ensures.lattice c.in_err-list_walk.ensures.refused in
    rw (b.1, b.2) r

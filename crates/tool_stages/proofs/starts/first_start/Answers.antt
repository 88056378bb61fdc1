use Rattle.std.proofs.Common.{arith}
use Rattle.tool_stages.proofs.StartLemmas.{some_given, first_given, first_fits}
use Rattle.tool_stages.proofs.starts.first_start.Goals as goal

pub swap_remove-requires : goal.swap_remove-requires
swap_remove-requires g c =
    let some = some_given (g.S.Shelf.content c.args.shelf.now c.in-Some.file.now) c.args.p.now c.in-Ok-all_starts.starts.items c.in-Ok-all_starts.ensures.ok in
    omega (arith, some)

pub returns-in-Ok-all_starts-clause-ok : goal.returns-in-Ok-all_starts-clause-ok
returns-in-Ok-all_starts-clause-ok g c =
    rw c.in-Some.is (first_given (g.S.Shelf.content c.args.shelf.now c.in-Some.file.now) c.args.p.now c.in-Ok-all_starts.starts.items c.swap_remove.result
    c.in-Ok-all_starts.ensures.ok c.swap_remove.ensures.value)

pub returns-in-Ok-all_starts-clause-valid : goal.returns-in-Ok-all_starts-clause-valid
returns-in-Ok-all_starts-clause-valid g c =
    let some = some_given (g.S.Shelf.content c.args.shelf.now c.in-Some.file.now) c.args.p.now c.in-Ok-all_starts.starts.items c.in-Ok-all_starts.ensures.ok in
    first_fits c.args.p.now c.in-Ok-all_starts.starts.items c.swap_remove.result c.in-Ok-all_starts.ensures.valid some c.swap_remove.ensures.value

pub returns-in-Err-all_starts-clause-log : goal.returns-in-Err-all_starts-clause-log
returns-in-Err-all_starts-clause-log g c = rw c.in-Some.is c.in-Err-all_starts.ensures.log

use Rattle.std.proofs.Common.{sym}
use Rattle.std.proofs.lemmas.Option.{slice_get_within, get_or_from_slice_get}
use Rattle.mit_syntax.proofs.Listing.{next_declared}
use Rattle.mit_syntax.proofs.print.header.put_declarations.Goals as goal

pub loop-k-preserved : goal.loop-k-preserved
loop-k-preserved c =
    let ds = c.args.variables.now in
    let d = c.declaration-name.result in
    let e = c.declaration-name.ensures in
    next_declared c.args.labels.now ds d c.loop-k.k (slice_get_within ds c.loop-k.k d e) (sym (get_or_from_slice_get ds c.loop-k.k d d e)) c.loop-k.invariant
    c.in_ok-put_declaration.ensures

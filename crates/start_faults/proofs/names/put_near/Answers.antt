use Rattle.std.proofs.Common.{◌≡◌, List, Some, subst}
use Rattle.std.specs.Prelude.{slice_get}
use Rattle.mit_syntax.specs.Declarations.{Declaration}
use Rattle.start_faults.proofs.Pieces.{near_step}
use Rattle.start_faults.proofs.names.put_near.Goals as goal

pub loop-k-preserved : goal.loop-k-preserved
loop-k-preserved c =
    near_step c.args.program.now.declarations c.loop-k.k c.declaration-name.result c.args.word.now c.bytes-bytes.result.now c.is_near.result
    c.loop-k.out.items c.put_listed.new.out.items _
    (subst (λ (ds : List Declaration). slice_get ds c.loop-k.k ≡ Some c.declaration-name.result) c.declarations-declarations.ensures
    c.declaration-name.ensures)
    c.bytes-bytes.ensures.value c.is_near.ensures c.in_ok-put_listed.ensures c.loop-k.invariant

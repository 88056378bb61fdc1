use Rattle.std.proofs.Common.{◌≡◌, List, Some, subst}
use Rattle.std.specs.Prelude.{slice_get}
use Rattle.mit_syntax.specs.Declarations.{Declaration}
use Rattle.lab_why.proofs.NameLemmas.{name_step}
use Rattle.lab_why.proofs.names.put_names.Goals as goal

pub loop-k-preserved : goal.loop-k-preserved
loop-k-preserved c =
    name_step c.args.p.now.declarations c.loop-k.k c.declaration-name.result c.bytes.result.now c.loop-k.out.items
    c.extend_from_slice.new.self.items c.extend_from_slice-in-loop-k.new.self.items _
    (subst (λ (ds : List Declaration). slice_get ds c.loop-k.k ≡ Some c.declaration-name.result) c.declarations-declarations.ensures
    c.declaration-name.ensures)
    c.bytes.ensures.value c.in_ok-extend_from_slice.ensures.items c.in_ok-extend_from_slice-2.ensures.items c.loop-k.invariant

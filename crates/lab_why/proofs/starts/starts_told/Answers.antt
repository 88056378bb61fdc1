use Rattle.std.proofs.Common.{refl, sym, subst}
use Rattle.tim_base.specs.Told.{IsTold}
use Rattle.tim_base.specs.Faults.{Rose}
use Rattle.tool_texts.specs.Texts.{starts}
use Rattle.lab_why.proofs.StartsLemmas.{taken_rise}
use Rattle.lab_why.proofs.starts.starts_told.Goals as goal

pub returns-in-Err-clause-stop : goal.returns-in-Err-clause-stop
returns-in-Err-clause-stop g c = c.in-Err.ensures.stop starts refl

pub returns-in-Ok-bytes_told-clause-told : goal.returns-in-Ok-bytes_told-clause-told
returns-in-Ok-bytes_told-clause-told g c =
    let content = g.S.Shelf.content c.args.shelf.now c.args.file.now in
    let rises = Rose (g.S.Shelf.faults c.args.shelf.now c.args.file.now) (g.S.Shelf.faults c.bytes_of.new.shelf c.args.file.now) in
    taken_rise ⊥ rises content c.args.program.now _ _ (λ z. absurd z)
    (c.in-Ok-bytes_told.ensures.told content (subst (IsTold content) (sym c.as_slice.ensures.value) c.in-Ok.ensures.ok))

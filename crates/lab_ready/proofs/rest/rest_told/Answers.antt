use Rattle.std.proofs.Common.{refl, sym, subst, Some}
use Rattle.tim_base.specs.Told.{IsTold}
use Rattle.tim_base.specs.Faults.{Rose}
use Rattle.tool_texts.specs.Texts.{starts}
use Rattle.lab_ready.proofs.BegunLemmas.{rest_rise}
use Rattle.lab_ready.proofs.rest.rest_told.Goals as goal

pub returns-in-Err-clause-stop : goal.returns-in-Err-clause-stop
returns-in-Err-clause-stop g c = c.in-Err.ensures.stop starts refl

pub returns-in-Ok-bytes_told-clause-told : goal.returns-in-Ok-bytes_told-clause-told
returns-in-Ok-bytes_told-clause-told g c =
    let content = g.S.Shelf.content c.args.shelf.now c.args.file.now in
    let rises = Rose (g.S.Shelf.faults c.args.shelf.now c.args.file.now) (g.S.Shelf.faults c.bytes_of.new.shelf c.args.file.now) in
    rest_rise rises content c.args.setting.env c.args.setting.budget _ _ (Some c.args.observer) _ _
    (c.in-Ok-bytes_told.ensures content (subst (IsTold content) (sym c.as_slice.ensures.value) c.in-Ok.ensures.ok))

pub returns-in-Ok-bytes_told-clause-read : goal.returns-in-Ok-bytes_told-clause-read
returns-in-Ok-bytes_told-clause-read g c =
    let content = g.S.Shelf.content c.args.shelf.now c.args.file.now in
    c.in-Ok-bytes_told.ensures content (subst (IsTold content) (sym c.as_slice.ensures.value) c.in-Ok.ensures.ok)

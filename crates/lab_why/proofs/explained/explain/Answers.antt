use Rattle.std.proofs.Common.{refl, sym, subst}
use Rattle.tim_base.specs.Told.{IsTold}
use Rattle.tool_texts.specs.Texts.{program}
use Rattle.lab_why.proofs.explained.explain.Goals as goal

pub returns-in-Err-clause-stop : goal.returns-in-Err-clause-stop
returns-in-Err-clause-stop g c = c.in-Err.ensures.stop program refl

pub returns-in-Ok-explain_text-clause-told : goal.returns-in-Ok-explain_text-clause-told
returns-in-Ok-explain_text-clause-told g c =
    let content = g.S.Shelf.content c.args.shelf.now c.args.file.now in
    c.in-Ok-explain_text.ensures content (subst (IsTold content) (sym c.as_slice.ensures.value) c.in-Ok.ensures.ok)

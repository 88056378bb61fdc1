use Rattle.std.proofs.Common.{refl, sym, subst}
use Rattle.tim_base.specs.Told.{IsTold}
use Rattle.tim_base.specs.Faults.{Rose}
use Rattle.tool_texts.specs.Texts.{program}
use Rattle.lab_check.proofs.FoundLemmas.{text_answers, text_no_read}
use Rattle.lab_check.proofs.checked.checked.Goals as goal

pub returns-in-Err-clause-stop : goal.returns-in-Err-clause-stop
returns-in-Err-clause-stop g c = c.in-Err.ensures.stop program refl

pub returns-in-Ok-text_answer-clause-told : goal.returns-in-Ok-text_answer-clause-told
returns-in-Ok-text_answer-clause-told g c =
    let content = g.S.Shelf.content c.args.shelf.now c.args.file.now in
    let rises = Rose (g.S.Shelf.faults c.args.shelf.now c.args.file.now) (g.S.Shelf.faults c.bytes_of.new.shelf c.args.file.now) in
    let answer = c.in-Ok-text_answer.answer in
    text_answers rises content answer.status answer.text.items
    (c.in-Ok-text_answer.ensures content (subst (IsTold content) (sym c.as_slice.ensures.value) c.in-Ok.ensures.ok))

pub returns-in-Ok-text_answer-clause-read : goal.returns-in-Ok-text_answer-clause-read
returns-in-Ok-text_answer-clause-read g c =
    let content = g.S.Shelf.content c.args.shelf.now c.args.file.now in
    let answer = c.in-Ok-text_answer.answer in
    text_no_read content answer.status answer.text.items
    (c.in-Ok-text_answer.ensures content (subst (IsTold content) (sym c.as_slice.ensures.value) c.in-Ok.ensures.ok))

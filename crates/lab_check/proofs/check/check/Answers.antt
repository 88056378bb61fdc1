use Rattle.std.proofs.Common.{sym, subst}
use Rattle.std.specs.Prelude.{ℕ, List, [], ◌∷◌, Ok, Err}
use Rattle.tim_base.specs.Faults.{Rose}
use Rattle.tool_texts.specs.declared.status.Status.{Status}
use Rattle.tool_texts.specs.declared.status.Status.TheVariants.{Done}
use Rattle.tool_texts.specs.Ends.{Nothing, Tells, status_of, stop_text}
use Rattle.tool_texts.proofs.EndLemmas.{ends_finish}
use Rattle.tool_stages.proofs.FetchLemmas.{fetched_by}
use Rattle.lab_check.specs.Answers.{IsCheckAnswer}
use Rattle.lab_check.specs.Found.{unread_text}
use Rattle.lab_check.proofs.FoundLemmas.{no_write, check_tells, unread_tells}
use Rattle.lab_check.proofs.check.check.Goals as goal

pub finish-requires : goal.finish-requires
finish-requires g c =
    let rises = λ (name : List ℕ). Rose (g.S.Shelf.faults c.args.shelf.now name) (g.S.Shelf.faults c.checked.new.shelf name) in
    let content = g.S.Shelf.content c.args.shelf.now in
    let answer = c.in-Ok.answer in
    λ e. no_write rises content c.args.file.now answer.text.items
    (subst (λ (z : Status). IsCheckAnswer rises content c.args.file.now z answer.text.items) e c.in-Ok.ensures.told)

pub returns-in-Ok-clause-answered : goal.returns-in-Ok-clause-answered
returns-in-Ok-clause-answered g c =
    let rises = λ (name : List ℕ). Rose (g.S.Shelf.faults c.args.shelf.now name) (g.S.Shelf.faults c.checked.new.shelf name) in
    let content = g.S.Shelf.content c.args.shelf.now in
    let answer = c.in-Ok.answer in
    let told = IsCheckAnswer rises content c.args.file.now in
    ends_finish (g.W.Sink.taken c.args.out.now) (g.W.Sink.taken c.finish.new.out) Nothing told answer.status c.as_slice.result.now c.finish.result
    (subst (λ (t : List ℕ). Tells Nothing told answer.status t) (sym c.as_slice.ensures.value)
    (check_tells rises content c.args.file.now answer.status answer.text.items c.in-Ok.ensures.told))
    c.finish.ensures.told c.finish.ensures.prefix

pub returns-in-Err-clause-answered : goal.returns-in-Err-clause-answered
returns-in-Err-clause-answered g c =
    let rises = λ (name : List ℕ). Rose (g.S.Shelf.faults c.args.shelf.now name) (g.S.Shelf.faults c.checked.new.shelf name) in
    let content = g.S.Shelf.content c.args.shelf.now in
    let e = c.in-Err.why in
    ends_finish (g.W.Sink.taken c.args.out.now) (g.W.Sink.taken c.unread.new.out) Nothing (IsCheckAnswer rises content c.args.file.now)
    (status_of e) (unread_text e) c.unread.result
    (unread_tells rises content c.args.file.now (status_of e) (stop_text e) c.in-Err.ensures.stop) c.unread.ensures.told c.unread.ensures.prefix

pub returns-in-Ok-clause-fetched : goal.returns-in-Ok-clause-fetched
returns-in-Ok-clause-fetched g c =
    fetched_by {A = Unit {0}} (c.args.file.now ∷ []) (g.S.Shelf.log c.args.shelf.now) (g.S.Shelf.log c.checked.new.shelf) c.in-Ok.answer.status
    c.finish.result (Ok tt) c.in-Ok.ensures.read c.in-Ok.ensures.log (λ n. (c.finish.ensures.told n).0)

pub returns-in-Err-clause-fetched : goal.returns-in-Err-clause-fetched
returns-in-Err-clause-fetched g c =
    fetched_by {A = Unit {0}} (c.args.file.now ∷ []) (g.S.Shelf.log c.args.shelf.now) (g.S.Shelf.log c.checked.new.shelf) Done c.unread.result
    (Err c.in-Err.why) (λ e. absurd cc) c.in-Err.ensures.log (λ n. (c.unread.ensures.told n).0)

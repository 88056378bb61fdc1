use Rattle.std.proofs.Common.{refl, sym, subst, inl, Some, ℕ, List}
use Rattle.std.specs.Prelude.{[], ◌∷◌, Ok, Err}
use Rattle.tim_base.specs.Faults.{Rose}
use Rattle.tool_texts.specs.declared.status.Status.TheVariants.{Done}
use Rattle.tool_texts.specs.Ends.{Nothing, status_of, stop_text}
use Rattle.tool_texts.specs.Texts.{starts}
use Rattle.tool_texts.proofs.EndLemmas.{ends_stop}
use Rattle.tool_stages.specs.Fetches.{FileStops}
use Rattle.tool_stages.proofs.FetchLemmas.{fetched_by}
use Rattle.lab_why.proofs.StartsLemmas.{file_starts}
use Rattle.lab_ready.specs.Answer.{IsRest}
use Rattle.lab_ready.proofs.Stops.{broke_plain, rest_no_fault, rest_no_memory, rest_no_read, status_not, status_not_read}
use Rattle.lab_ready.proofs.why_audit.tell_rest.Goals as goal

pub finish-requires : goal.finish-requires
finish-requires g c =
    let content = g.S.Shelf.content c.args.shelf.now c.args.starts.now in
    let q = c.args.compiled.typed.labelled in
    let env = c.args.setting.env in
    let t = c.args.setting.budget in
    status_not (IsRest ⊥ content env t q.program q (Some c.args.observer)) c.in-Ok.told.status c.in-Ok.told.text.items
    (λ x. rest_no_fault content env t q.program q c.args.observer x ⊥) c.in-Ok.ensures.read

pub returns-in-Ok-clause-answered : goal.returns-in-Ok-clause-answered
returns-in-Ok-clause-answered g c =
    let rises = Rose (g.S.Shelf.faults c.args.shelf.now c.args.starts.now) (g.S.Shelf.faults c.rest_told-told.new.shelf c.args.starts.now) in
    let content = g.S.Shelf.content c.args.shelf.now c.args.starts.now in
    let q = c.args.compiled.typed.labelled in
    let env = c.args.setting.env in
    let t = c.args.setting.budget in
    let answer = IsRest rises content env t q.program q (Some c.args.observer) in
    let s = c.in-Ok.told.status in
    let x = c.as_slice.result.now in
    ends_stop (g.W.Sink.taken c.args.out.now) (g.W.Sink.taken c.finish.new.out) Nothing answer answer s x c.finish.result refl (λ u h. h)
    (broke_plain answer s x (rest_no_memory content env t q.program q c.args.observer x rises)
    (subst (λ (z : List ℕ). answer s z) (sym c.as_slice.ensures.value) c.in-Ok.ensures.told)) c.finish.ensures.told c.finish.ensures.prefix

pub returns-in-Err-clause-answered : goal.returns-in-Err-clause-answered
returns-in-Err-clause-answered g c =
    let rises = Rose (g.S.Shelf.faults c.args.shelf.now c.args.starts.now) (g.S.Shelf.faults c.rest_told-told.new.shelf c.args.starts.now) in
    let content = g.S.Shelf.content c.args.shelf.now c.args.starts.now in
    let q = c.args.compiled.typed.labelled in
    let e = c.in-Err.e in
    ends_stop (g.W.Sink.taken c.args.out.now) (g.W.Sink.taken c.stop.new.out) Nothing (FileStops rises content starts)
    (IsRest rises content c.args.setting.env c.args.setting.budget q.program q (Some c.args.observer)) (status_of e) (stop_text e) c.stop.result refl
    (λ t h. inl (file_starts rises content q.program (status_of e) t h)) c.in-Err.ensures.stop c.stop.ensures.told c.stop.ensures.prefix

pub returns-in-Ok-clause-fetched : goal.returns-in-Ok-clause-fetched
returns-in-Ok-clause-fetched g c =
    let content = g.S.Shelf.content c.args.shelf.now c.args.starts.now in
    let q = c.args.compiled.typed.labelled in
    let env = c.args.setting.env in
    let t = c.args.setting.budget in
    fetched_by {A = Unit {0}} (c.args.starts.now ∷ []) (g.S.Shelf.log c.args.shelf.now) (g.S.Shelf.log c.rest_told-told.new.shelf) c.in-Ok.told.status
    c.finish.result (Ok tt) (status_not_read (IsRest ⊥ content env t q.program q (Some c.args.observer)) c.in-Ok.told.status c.in-Ok.told.text.items
    (λ x. rest_no_read content env t q.program q c.args.observer x) c.in-Ok.ensures.read) c.in-Ok.ensures.log (λ n. (c.finish.ensures.told n).0)

pub returns-in-Err-clause-fetched : goal.returns-in-Err-clause-fetched
returns-in-Err-clause-fetched g c =
    fetched_by {A = Unit {0}} (c.args.starts.now ∷ []) (g.S.Shelf.log c.args.shelf.now) (g.S.Shelf.log c.rest_told-told.new.shelf) Done c.stop.result
    (Err c.in-Err.e) (λ e. absurd cc) c.in-Err.ensures.log (λ n. (c.stop.ensures.told n).0)

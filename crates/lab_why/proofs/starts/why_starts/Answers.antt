use Rattle.std.proofs.Common.{refl, sym, ap, subst, inl, inr, ◌∙◌, ℕ, List}
use Rattle.std.specs.Prelude.{[], ◌∷◌, Ok, Err}
use Rattle.tim_base.specs.Faults.{Rose}
use Rattle.timing_types.specs.Labelled.{LabelledProgram}
use Rattle.tool_texts.specs.declared.status.Status.TheVariants.{Done, Refused, Syntax as BadSyntax}
use Rattle.tool_texts.specs.Ends.{Nothing, status_of, stop_text}
use Rattle.tool_texts.specs.Texts.{program}
use Rattle.tool_texts.proofs.EndLemmas.{ends_finish, ends_map, ends_stop}
use Rattle.tool_stages.specs.Fetches.{FileStops}
use Rattle.tool_stages.proofs.FetchLemmas.{fetched_by}
use Rattle.tool_stages.proofs.StopLemmas.{rose_since}
use Rattle.lab_why.specs.Explained.{IsExplained}
use Rattle.lab_why.specs.Starts.{IsStartsAnswer, IsTaken}
use Rattle.lab_why.proofs.FaultLemmas.{file_why}
use Rattle.lab_why.proofs.StartsLemmas.{accepted_then, fetched_before, fetched_then}
use Rattle.lab_why.proofs.starts.why_starts.Goals as goal

pub returns-in-Ok-Accepted-clause-answered : goal.returns-in-Ok-Accepted-clause-answered
returns-in-Ok-Accepted-clause-answered g c =
    let content = g.S.Shelf.content c.args.shelf.now in
    let old = g.S.Shelf.faults c.args.shelf.now in
    let mid = g.S.Shelf.faults c.explain.new.shelf in
    let new = g.S.Shelf.faults c.tell_starts.new.shelf in
    let rises = λ (name : List ℕ). Rose (old name) (new name) in
    let later = Rose (mid c.args.starts.now) (new c.args.starts.now) in
    let held = g.S.Shelf.content c.explain.new.shelf c.args.starts.now in
    let told = subst (IsExplained (content c.args.file.now)) c.in-Ok-Accepted.field-0-is c.in-Ok-Accepted.ensures.told in
    let same = c.program.ensures.program ∙ ap (λ (z : LabelledProgram). z.program) c.labelled.ensures.labelled in
    ends_map (g.W.Sink.taken c.args.out.now) (g.W.Sink.taken c.tell_starts.new.out) Nothing Nothing (IsTaken later held c.program.result.now)
    (IsStartsAnswer rises content c.args.file.now c.args.starts.now) c.tell_starts.result (λ b h. h)
    (λ s t h. accepted_then rises later content held c.args.file.now c.args.starts.now c.in-Ok-Accepted.typed c.program.result.now s t told same
    (c.explain.ensures.same c.args.starts.now)
    (rose_since (old c.args.starts.now) (mid c.args.starts.now) (new c.args.starts.now) (c.explain.ensures.later c.args.starts.now)) h)
    c.tell_starts.ensures.answered

pub returns-in-Ok-Refused-clause-answered : goal.returns-in-Ok-Refused-clause-answered
returns-in-Ok-Refused-clause-answered g c =
    let rises = λ (name : List ℕ). Rose (g.S.Shelf.faults c.args.shelf.now name) (g.S.Shelf.faults c.explain.new.shelf name) in
    let content = g.S.Shelf.content c.args.shelf.now in
    let answer = IsStartsAnswer rises content c.args.file.now c.args.starts.now in
    let told = subst (IsExplained (content c.args.file.now)) c.in-Ok-Refused.field-0-is c.in-Ok-Refused.ensures.told in
    ends_finish (g.W.Sink.taken c.args.out.now) (g.W.Sink.taken c.finish.new.out) Nothing answer Refused c.as_slice.result.now c.finish.result
    (subst (λ (t : List ℕ). answer Refused t) (sym c.as_slice.ensures.value) (inr (told.0, told.1, inl told.2)))
    c.finish.ensures.told c.finish.ensures.prefix

pub returns-in-Ok-Faulty-clause-answered : goal.returns-in-Ok-Faulty-clause-answered
returns-in-Ok-Faulty-clause-answered g c =
    let rises = λ (name : List ℕ). Rose (g.S.Shelf.faults c.args.shelf.now name) (g.S.Shelf.faults c.explain.new.shelf name) in
    let content = g.S.Shelf.content c.args.shelf.now in
    let answer = IsStartsAnswer rises content c.args.file.now c.args.starts.now in
    let told = subst (IsExplained (content c.args.file.now)) c.in-Ok-Faulty.field-0-is c.in-Ok-Faulty.ensures.told in
    ends_finish (g.W.Sink.taken c.args.out.now) (g.W.Sink.taken c.finish-in-Ok-Faulty.new.out) Nothing answer BadSyntax
    c.as_slice-in-Ok-Faulty.result.now c.finish-in-Ok-Faulty.result
    (subst (λ (t : List ℕ). answer BadSyntax t) (sym c.as_slice-in-Ok-Faulty.ensures.value) (inl told))
    c.finish-in-Ok-Faulty.ensures.told c.finish-in-Ok-Faulty.ensures.prefix

pub returns-in-Err-clause-answered : goal.returns-in-Err-clause-answered
returns-in-Err-clause-answered g c =
    let rises = λ (name : List ℕ). Rose (g.S.Shelf.faults c.args.shelf.now name) (g.S.Shelf.faults c.explain.new.shelf name) in
    let content = g.S.Shelf.content c.args.shelf.now in
    let e = c.in-Err.e in
    ends_stop (g.W.Sink.taken c.args.out.now) (g.W.Sink.taken c.stop.new.out) Nothing
    (FileStops (rises c.args.file.now) (content c.args.file.now) program) (IsStartsAnswer rises content c.args.file.now c.args.starts.now)
    (status_of e) (stop_text e) c.stop.result refl (λ t h. inl (file_why (rises c.args.file.now) (content c.args.file.now) (status_of e) t h))
    c.in-Err.ensures.stop c.stop.ensures.told c.stop.ensures.prefix

pub returns-in-Ok-Accepted-clause-fetched : goal.returns-in-Ok-Accepted-clause-fetched
returns-in-Ok-Accepted-clause-fetched g c =
    fetched_then {A = Unit {0}} (c.args.file.now ∷ []) (c.args.starts.now ∷ []) (g.S.Shelf.log c.args.shelf.now) (g.S.Shelf.log c.explain.new.shelf)
    (g.S.Shelf.log c.tell_starts.new.shelf) tt c.tell_starts.result c.in-Ok-Accepted.ensures.log c.tell_starts.ensures.fetched

pub returns-in-Ok-Refused-clause-fetched : goal.returns-in-Ok-Refused-clause-fetched
returns-in-Ok-Refused-clause-fetched g c =
    fetched_before (c.args.file.now ∷ []) (c.args.starts.now ∷ []) (g.S.Shelf.log c.args.shelf.now) (g.S.Shelf.log c.explain.new.shelf) c.finish.result
    (fetched_by {A = Unit {0}} (c.args.file.now ∷ []) (g.S.Shelf.log c.args.shelf.now) (g.S.Shelf.log c.explain.new.shelf) Refused
    c.finish.result (Ok tt) (λ e. absurd cc) c.in-Ok-Refused.ensures.log (λ n. (c.finish.ensures.told n).0))

pub returns-in-Ok-Faulty-clause-fetched : goal.returns-in-Ok-Faulty-clause-fetched
returns-in-Ok-Faulty-clause-fetched g c =
    fetched_before (c.args.file.now ∷ []) (c.args.starts.now ∷ []) (g.S.Shelf.log c.args.shelf.now) (g.S.Shelf.log c.explain.new.shelf)
    c.finish-in-Ok-Faulty.result
    (fetched_by {A = Unit {0}} (c.args.file.now ∷ []) (g.S.Shelf.log c.args.shelf.now) (g.S.Shelf.log c.explain.new.shelf) BadSyntax
    c.finish-in-Ok-Faulty.result (Ok tt) (λ e. absurd cc) c.in-Ok-Faulty.ensures.log (λ n. (c.finish-in-Ok-Faulty.ensures.told n).0))

pub returns-in-Err-clause-fetched : goal.returns-in-Err-clause-fetched
returns-in-Err-clause-fetched g c =
    fetched_before (c.args.file.now ∷ []) (c.args.starts.now ∷ []) (g.S.Shelf.log c.args.shelf.now) (g.S.Shelf.log c.explain.new.shelf) c.stop.result
    (fetched_by {A = Unit {0}} (c.args.file.now ∷ []) (g.S.Shelf.log c.args.shelf.now) (g.S.Shelf.log c.explain.new.shelf) Done c.stop.result
    (Err c.in-Err.e) (λ e. absurd cc) c.in-Err.ensures.log (λ n. (c.stop.ensures.told n).0))

pub returns-in-Ok-Accepted-clause-same : goal.returns-in-Ok-Accepted-clause-same
returns-in-Ok-Accepted-clause-same g c = λ name. c.tell_starts.ensures.same name ∙ c.explain.ensures.same name

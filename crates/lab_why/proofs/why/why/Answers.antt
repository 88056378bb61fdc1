use Rattle.std.proofs.Common.{refl, sym, ap, subst, inl, ◌∙◌}
use Rattle.std.specs.Prelude.{ℕ, List, [], ◌∷◌, Ok, Err}
use Rattle.tim_base.specs.Faults.{Rose}
use Rattle.tool_texts.specs.declared.status.Status.TheVariants.{Done, Refused, Syntax as BadSyntax}
use Rattle.tool_texts.specs.Ends.{Nothing, status_of, stop_text}
use Rattle.tool_texts.specs.Texts.{program, accepted_line}
use Rattle.mit_syntax.specs.Plan.{count, mitigates}
use Rattle.mit_syntax.specs.Program.{Syntax, plan_of}
use Rattle.timing_types.specs.Labelled.{LabelledProgram}
use Rattle.tool_stages.specs.Fetches.{FileStops}
use Rattle.lab_why.proofs.FaultLemmas.{explained_answers, file_why}
use Rattle.tool_stages.proofs.FetchLemmas.{fetched_by}
use Rattle.tool_texts.proofs.EndLemmas.{ends_finish, ends_stop}
use Rattle.lab_why.specs.declared.explained.Explained.TheVariants as explained
use Rattle.lab_why.specs.Explained.{IsExplained}
use Rattle.lab_why.specs.Answers.{IsWhyAnswer}
use Rattle.lab_why.proofs.why.why.Goals as goal

pub returns-in-Ok-Accepted-clause-answered : goal.returns-in-Ok-Accepted-clause-answered
returns-in-Ok-Accepted-clause-answered g c =
    let rises = λ (name : List ℕ). Rose (g.S.Shelf.faults c.args.shelf.now name) (g.S.Shelf.faults c.explain.new.shelf name) in
    let content = g.S.Shelf.content c.args.shelf.now in
    let answer = IsWhyAnswer rises content c.args.file.now in
    let told = subst (IsExplained (content c.args.file.now)) c.in-Ok-Accepted.field-0-is c.in-Ok-Accepted.ensures.told in
    let same = c.program-program.ensures.program ∙ ap (λ (z : LabelledProgram). z.program) c.labelled.ensures.labelled in
    let line = c.accepted-line.ensures ∙ (ap (λ n. accepted_line n c.mitigates.result) (c.commands.ensures ∙ ap (λ (z : Syntax). count (plan_of z)) same)
    ∙ ap (accepted_line _) (c.mitigates.ensures ∙ ap (λ (z : Syntax). mitigates (plan_of z)) same)) in
    ends_finish (g.W.Sink.taken c.args.out.now) (g.W.Sink.taken c.finish.new.out) Nothing answer Done c.bytes.result.now c.finish.result
    (subst (λ (t : List ℕ). answer Done t) (sym (c.bytes.ensures ∙ line))
    (explained_answers (rises c.args.file.now) (content c.args.file.now) (explained.Accepted c.in-Ok-Accepted.typed) told))
    c.finish.ensures.told c.finish.ensures.prefix

pub returns-in-Ok-Refused-clause-answered : goal.returns-in-Ok-Refused-clause-answered
returns-in-Ok-Refused-clause-answered g c =
    let rises = λ (name : List ℕ). Rose (g.S.Shelf.faults c.args.shelf.now name) (g.S.Shelf.faults c.explain.new.shelf name) in
    let content = g.S.Shelf.content c.args.shelf.now in
    let answer = IsWhyAnswer rises content c.args.file.now in
    let told = subst (IsExplained (content c.args.file.now)) c.in-Ok-Refused.field-0-is c.in-Ok-Refused.ensures.told in
    ends_finish (g.W.Sink.taken c.args.out.now) (g.W.Sink.taken c.finish-in-Ok-Refused.new.out) Nothing answer Refused c.as_slice.result.now
    c.finish-in-Ok-Refused.result
    (subst (λ (t : List ℕ). answer Refused t) (sym c.as_slice.ensures.value)
    (explained_answers (rises c.args.file.now) (content c.args.file.now) (explained.Refused c.in-Ok-Refused.lines) told))
    c.finish-in-Ok-Refused.ensures.told c.finish-in-Ok-Refused.ensures.prefix

pub returns-in-Ok-Faulty-clause-answered : goal.returns-in-Ok-Faulty-clause-answered
returns-in-Ok-Faulty-clause-answered g c =
    let rises = λ (name : List ℕ). Rose (g.S.Shelf.faults c.args.shelf.now name) (g.S.Shelf.faults c.explain.new.shelf name) in
    let content = g.S.Shelf.content c.args.shelf.now in
    let answer = IsWhyAnswer rises content c.args.file.now in
    let told = subst (IsExplained (content c.args.file.now)) c.in-Ok-Faulty.field-0-is c.in-Ok-Faulty.ensures.told in
    ends_finish (g.W.Sink.taken c.args.out.now) (g.W.Sink.taken c.finish-in-Ok-Faulty.new.out) Nothing answer BadSyntax c.as_slice-in-Ok-Faulty.result.now
    c.finish-in-Ok-Faulty.result
    (subst (λ (t : List ℕ). answer BadSyntax t) (sym c.as_slice-in-Ok-Faulty.ensures.value)
    (explained_answers (rises c.args.file.now) (content c.args.file.now) (explained.Faulty c.in-Ok-Faulty.lines) told))
    c.finish-in-Ok-Faulty.ensures.told c.finish-in-Ok-Faulty.ensures.prefix

pub returns-in-Err-clause-answered : goal.returns-in-Err-clause-answered
returns-in-Err-clause-answered g c =
    let rises = λ (name : List ℕ). Rose (g.S.Shelf.faults c.args.shelf.now name) (g.S.Shelf.faults c.explain.new.shelf name) in
    let content = g.S.Shelf.content c.args.shelf.now in
    let e = c.in-Err.e in
    ends_stop (g.W.Sink.taken c.args.out.now) (g.W.Sink.taken c.stop.new.out) Nothing
    (FileStops (rises c.args.file.now) (content c.args.file.now) program) (IsWhyAnswer rises content c.args.file.now)
    (status_of e) (stop_text e) c.stop.result refl (λ t h. inl (file_why (rises c.args.file.now) (content c.args.file.now) (status_of e) t h))
    c.in-Err.ensures.stop c.stop.ensures.told c.stop.ensures.prefix

pub returns-in-Ok-Accepted-clause-fetched : goal.returns-in-Ok-Accepted-clause-fetched
returns-in-Ok-Accepted-clause-fetched g c =
    fetched_by {A = Unit {0}} (c.args.file.now ∷ []) (g.S.Shelf.log c.args.shelf.now) (g.S.Shelf.log c.explain.new.shelf) Done c.finish.result (Ok tt)
    (λ e. absurd cc) c.in-Ok-Accepted.ensures.log (λ n. (c.finish.ensures.told n).0)

pub returns-in-Ok-Refused-clause-fetched : goal.returns-in-Ok-Refused-clause-fetched
returns-in-Ok-Refused-clause-fetched g c =
    fetched_by {A = Unit {0}} (c.args.file.now ∷ []) (g.S.Shelf.log c.args.shelf.now) (g.S.Shelf.log c.explain.new.shelf) Refused
    c.finish-in-Ok-Refused.result (Ok tt) (λ e. absurd cc) c.in-Ok-Refused.ensures.log (λ n. (c.finish-in-Ok-Refused.ensures.told n).0)

pub returns-in-Ok-Faulty-clause-fetched : goal.returns-in-Ok-Faulty-clause-fetched
returns-in-Ok-Faulty-clause-fetched g c =
    fetched_by {A = Unit {0}} (c.args.file.now ∷ []) (g.S.Shelf.log c.args.shelf.now) (g.S.Shelf.log c.explain.new.shelf) BadSyntax
    c.finish-in-Ok-Faulty.result (Ok tt) (λ e. absurd cc) c.in-Ok-Faulty.ensures.log (λ n. (c.finish-in-Ok-Faulty.ensures.told n).0)

pub returns-in-Err-clause-fetched : goal.returns-in-Err-clause-fetched
returns-in-Err-clause-fetched g c =
    fetched_by {A = Unit {0}} (c.args.file.now ∷ []) (g.S.Shelf.log c.args.shelf.now) (g.S.Shelf.log c.explain.new.shelf) Done c.stop.result
    (Err c.in-Err.e) (λ e. absurd cc) c.in-Err.ensures.log (λ n. (c.stop.ensures.told n).0)

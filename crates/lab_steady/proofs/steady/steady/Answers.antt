use Rattle.std.proofs.Common.{refl, sym, subst}
use Rattle.std.specs.Prelude.{ℕ, List, option_map}
use Rattle.tim_base.specs.Faults.{Rose}
use Rattle.tool_texts.specs.declared.status.Status.TheVariants.{Done, Refused}
use Rattle.tool_texts.specs.Ends.{Nothing, status_of, stop_text}
use Rattle.tool_texts.proofs.EndLemmas.{ends_finish, ends_stop}
use Rattle.lab_steady.specs.declared.judge.Verdict.{Verdict}
use Rattle.lab_steady.specs.Answer.{SteadiesBy, IsSteadyAnswer, parts_or}
use Rattle.lab_steady.specs.Told.{status_told, text_told}
use Rattle.lab_steady.proofs.steady.steady.Goals as goal

pub returns-in-Ok-Steady-clause-answered : goal.returns-in-Ok-Steady-clause-answered
returns-in-Ok-Steady-clause-answered g c =
    let content = g.S.Shelf.content c.args.shelf.now in
    let rises = λ (name : List ℕ). Rose (g.S.Shelf.faults c.args.shelf.now name) (g.S.Shelf.faults c.steady_by.new.shelf name) in
    let file = c.args.file.now in
    let observer = c.args.observer.now in
    let constant = option_map (λ s. s.now) c.args.constant in
    let parts = option_map (λ s. s.now) c.args.parts in
    ends_finish (g.W.Sink.taken c.args.out.now) (g.W.Sink.taken c.finish.new.out) Nothing
    (IsSteadyAnswer constant rises content file observer parts c.args.whole)
    Done c.as_slice.result.now c.finish.result
    (subst (λ (t : List ℕ). SteadiesBy constant rises content file observer (parts_or parts observer) c.args.whole Done t) (sym c.as_slice.ensures.value)
    (subst (λ (w : List ℕ). SteadiesBy constant rises content file observer w c.args.whole Done c.in-Ok-Steady.text.items) c.parts_named-parts.ensures
    (subst (λ (z : Verdict). SteadiesBy constant rises content file observer c.parts_named-parts.result.now c.args.whole (status_told z) (text_told z))
    c.in-Ok-Steady.field-0-is c.in-Ok-Steady.ensures.told)))
    c.finish.ensures.told c.finish.ensures.prefix

pub returns-in-Ok-Unsteady-clause-answered : goal.returns-in-Ok-Unsteady-clause-answered
returns-in-Ok-Unsteady-clause-answered g c =
    let content = g.S.Shelf.content c.args.shelf.now in
    let rises = λ (name : List ℕ). Rose (g.S.Shelf.faults c.args.shelf.now name) (g.S.Shelf.faults c.steady_by.new.shelf name) in
    let file = c.args.file.now in
    let observer = c.args.observer.now in
    let constant = option_map (λ s. s.now) c.args.constant in
    let parts = option_map (λ s. s.now) c.args.parts in
    ends_finish (g.W.Sink.taken c.args.out.now) (g.W.Sink.taken c.finish-in-Ok-Unsteady.new.out) Nothing
    (IsSteadyAnswer constant rises content file observer parts c.args.whole)
    Refused c.as_slice-in-Ok-Unsteady.result.now c.finish-in-Ok-Unsteady.result
    (subst (λ (t : List ℕ). SteadiesBy constant rises content file observer (parts_or parts observer) c.args.whole Refused t)
    (sym c.as_slice-in-Ok-Unsteady.ensures.value)
    (subst (λ (w : List ℕ). SteadiesBy constant rises content file observer w c.args.whole Refused c.in-Ok-Unsteady.text.items)
    c.parts_named-parts.ensures
    (subst (λ (z : Verdict). SteadiesBy constant rises content file observer c.parts_named-parts.result.now c.args.whole (status_told z) (text_told z))
    c.in-Ok-Unsteady.field-0-is c.in-Ok-Unsteady.ensures.told)))
    c.finish-in-Ok-Unsteady.ensures.told c.finish-in-Ok-Unsteady.ensures.prefix

pub returns-in-Err-clause-answered : goal.returns-in-Err-clause-answered
returns-in-Err-clause-answered g c =
    let content = g.S.Shelf.content c.args.shelf.now in
    let rises = λ (name : List ℕ). Rose (g.S.Shelf.faults c.args.shelf.now name) (g.S.Shelf.faults c.steady_by.new.shelf name) in
    let file = c.args.file.now in
    let observer = c.args.observer.now in
    let constant = option_map (λ s. s.now) c.args.constant in
    let parts = option_map (λ s. s.now) c.args.parts in
    let e = c.in-Err.e in
    ends_stop (g.W.Sink.taken c.args.out.now) (g.W.Sink.taken c.stop.new.out) Nothing
    (SteadiesBy constant rises content file observer c.parts_named-parts.result.now c.args.whole)
    (IsSteadyAnswer constant rises content file observer parts c.args.whole)
    (status_of e) (stop_text e) c.stop.result refl
    (λ u h. subst (λ (w : List ℕ). SteadiesBy constant rises content file observer w c.args.whole (status_of e) u) c.parts_named-parts.ensures h)
    c.in-Err.ensures.stop
    c.stop.ensures.told c.stop.ensures.prefix

use Rattle.std.proofs.Common.{refl, sym, subst, Option, Some, ℕ, List, ◌∙◌}
use Rattle.std.specs.Prelude.{[], ◌∷◌, Ok, Err}
use Rattle.tim_base.specs.Faults.{Rose}
use Rattle.mit_syntax.specs.Program.{Syntax}
use Rattle.label_lattice.specs.declared.label.Label.{Label}
use Rattle.timing_types.specs.Labelled.{LabelledProgram}
use Rattle.tool_texts.specs.declared.status.Status.TheVariants.{Done}
use Rattle.tool_texts.specs.Ends.{Nothing, status_of, stop_text}
use Rattle.tool_texts.proofs.EndLemmas.{ends_map, ends_stop}
use Rattle.tool_stages.proofs.FetchLemmas.{fetched_by}
use Rattle.tool_stages.proofs.StopLemmas.{rose_since}
use Rattle.lab_why.proofs.StartsLemmas.{fetched_before, fetched_then}
use Rattle.lab_ready.specs.Answer.{IsReadyAnswer, IsRest}
use Rattle.lab_ready.specs.Begun.{BeginStops, IsBegun}
use Rattle.lab_ready.proofs.BegunLemmas.{goes_then, sees_label}
use Rattle.lab_ready.proofs.Stops.{begin_no_fault, begin_no_memory, begin_no_read, begins_rise, begins_stop, broke_not, broke_plain}
use Rattle.lab_ready.proofs.Stops.{status_not, status_not_read}
use Rattle.lab_ready.proofs.why_audit.why_audit.Goals as goal

pub tell_rest-requires-clause-image : goal.tell_rest-requires-clause-image
tell_rest-requires-clause-image g c =
    let content = g.S.Shelf.content c.args.shelf.now c.args.file.now in
    (subst (IsBegun content c.args.observer.now) c.in-Ok-Goes.field-0-is c.in-Ok-Goes.ensures.told).4

pub tell_rest-requires-clause-observer : goal.tell_rest-requires-clause-observer
tell_rest-requires-clause-observer g c =
    let content = g.S.Shelf.content c.args.shelf.now c.args.file.now in
    sees_label content c.args.observer.now c.in-Ok-Goes.compiled c.in-Ok-Goes.observer
    (subst (IsBegun content c.args.observer.now) c.in-Ok-Goes.field-0-is c.in-Ok-Goes.ensures.told)

pub finish-requires : goal.finish-requires
finish-requires g c =
    let content = g.S.Shelf.content c.args.shelf.now c.args.file.now in
    status_not (BeginStops ⊥ content c.args.observer.now) c.in-Ok-Ends.told.status c.in-Ok-Ends.told.text.items
    (begin_no_fault ⊥ content c.args.observer.now)
    (subst (IsBegun content c.args.observer.now) c.in-Ok-Ends.field-0-is c.in-Ok-Ends.ensures.told)

pub stop-requires : goal.stop-requires
stop-requires g c =
    let rises = Rose (g.S.Shelf.faults c.args.shelf.now c.args.file.now) (g.S.Shelf.faults c.begin.new.shelf c.args.file.now) in
    let content = g.S.Shelf.content c.args.shelf.now c.args.file.now in
    broke_not (BeginStops rises content c.args.observer.now) c.in-Err.e (begin_no_fault rises content c.args.observer.now) c.in-Err.ensures.stop

pub returns-in-Ok-Goes-clause-same : goal.returns-in-Ok-Goes-clause-same
returns-in-Ok-Goes-clause-same g c = λ name. c.tell_rest.ensures.same name ∙ c.begin.ensures.same name

pub returns-in-Ok-Goes-clause-answered : goal.returns-in-Ok-Goes-clause-answered
returns-in-Ok-Goes-clause-answered g c =
    let content = g.S.Shelf.content c.args.shelf.now in
    let old = g.S.Shelf.faults c.args.shelf.now in
    let mid = g.S.Shelf.faults c.begin.new.shelf in
    let new = g.S.Shelf.faults c.tell_rest.new.shelf in
    let rises = λ (name : List ℕ). Rose (old name) (new name) in
    let later = Rose (mid c.args.starts.now) (new c.args.starts.now) in
    let held = g.S.Shelf.content c.begin.new.shelf c.args.starts.now in
    let k = c.in-Ok-Goes.compiled in
    let l = c.in-Ok-Goes.observer in
    let env = c.args.setting.env in
    let t = c.args.setting.budget in
    let told = subst (IsBegun (content c.args.file.now) c.args.observer.now) c.in-Ok-Goes.field-0-is c.in-Ok-Goes.ensures.told in
    ends_map (g.W.Sink.taken c.args.out.now) (g.W.Sink.taken c.tell_rest.new.out) Nothing Nothing
    (IsRest later held env t k.typed.labelled.program k.typed.labelled (Some l))
    (IsReadyAnswer rises content c.args.file.now c.args.starts.now c.args.observer.now env t) c.tell_rest.result (λ b h. h)
    (λ s x h. goes_then rises later content held c.args.file.now c.args.starts.now c.args.observer.now k l env t s x told
    (c.begin.ensures.same c.args.starts.now)
    (rose_since (old c.args.starts.now) (mid c.args.starts.now) (new c.args.starts.now) (c.begin.ensures.later c.args.starts.now)) h)
    c.tell_rest.ensures.answered

pub returns-in-Ok-Ends-clause-answered : goal.returns-in-Ok-Ends-clause-answered
returns-in-Ok-Ends-clause-answered g c =
    let rises = λ (name : List ℕ). Rose (g.S.Shelf.faults c.args.shelf.now name) (g.S.Shelf.faults c.begin.new.shelf name) in
    let content = g.S.Shelf.content c.args.shelf.now in
    let env = c.args.setting.env in
    let t = c.args.setting.budget in
    let w = c.args.observer.now in
    let rose = rises c.args.file.now in
    let held = content c.args.file.now in
    let next = λ (p : Syntax) (q : LabelledProgram) (o : Option Label). IsRest (rises c.args.starts.now) (content c.args.starts.now) env t p q o in
    let s = c.in-Ok-Ends.told.status in
    let x = c.as_slice.result.now in
    let told = subst (IsBegun held w) c.in-Ok-Ends.field-0-is c.in-Ok-Ends.ensures.told in
    ends_stop (g.W.Sink.taken c.args.out.now) (g.W.Sink.taken c.finish.new.out) Nothing (BeginStops rose held w)
    (IsReadyAnswer rises content c.args.file.now c.args.starts.now w env t) s x c.finish.result refl
    (λ u h. begins_stop rose held w next s u h)
    (broke_plain (BeginStops rose held w) s x (begin_no_memory rose held w x)
    (begins_rise rose held w s x (subst (λ (z : List ℕ). BeginStops ⊥ held w s z) (sym c.as_slice.ensures.value) told)))
    c.finish.ensures.told c.finish.ensures.prefix

pub returns-in-Err-clause-answered : goal.returns-in-Err-clause-answered
returns-in-Err-clause-answered g c =
    let rises = λ (name : List ℕ). Rose (g.S.Shelf.faults c.args.shelf.now name) (g.S.Shelf.faults c.begin.new.shelf name) in
    let content = g.S.Shelf.content c.args.shelf.now in
    let env = c.args.setting.env in
    let t = c.args.setting.budget in
    let w = c.args.observer.now in
    let rose = rises c.args.file.now in
    let held = content c.args.file.now in
    let next = λ (p : Syntax) (q : LabelledProgram) (o : Option Label). IsRest (rises c.args.starts.now) (content c.args.starts.now) env t p q o in
    let e = c.in-Err.e in
    ends_stop (g.W.Sink.taken c.args.out.now) (g.W.Sink.taken c.stop.new.out) Nothing (BeginStops rose held w)
    (IsReadyAnswer rises content c.args.file.now c.args.starts.now w env t) (status_of e) (stop_text e) c.stop.result refl
    (λ u h. begins_stop rose held w next (status_of e) u h) c.in-Err.ensures.stop c.stop.ensures.told c.stop.ensures.prefix

pub returns-in-Ok-Goes-clause-fetched : goal.returns-in-Ok-Goes-clause-fetched
returns-in-Ok-Goes-clause-fetched g c =
    fetched_then {A = Unit {0}} (c.args.file.now ∷ []) (c.args.starts.now ∷ []) (g.S.Shelf.log c.args.shelf.now) (g.S.Shelf.log c.begin.new.shelf)
    (g.S.Shelf.log c.tell_rest.new.shelf) tt c.tell_rest.result c.in-Ok-Goes.ensures.log c.tell_rest.ensures.fetched

pub returns-in-Ok-Ends-clause-fetched : goal.returns-in-Ok-Ends-clause-fetched
returns-in-Ok-Ends-clause-fetched g c =
    let content = g.S.Shelf.content c.args.shelf.now c.args.file.now in
    let w = c.args.observer.now in
    let s = c.in-Ok-Ends.told.status in
    fetched_before (c.args.file.now ∷ []) (c.args.starts.now ∷ []) (g.S.Shelf.log c.args.shelf.now) (g.S.Shelf.log c.begin.new.shelf) c.finish.result
    (fetched_by {A = Unit {0}} (c.args.file.now ∷ []) (g.S.Shelf.log c.args.shelf.now) (g.S.Shelf.log c.begin.new.shelf) s c.finish.result (Ok tt)
    (status_not_read (BeginStops ⊥ content w) s c.in-Ok-Ends.told.text.items (begin_no_read content w)
    (subst (IsBegun content w) c.in-Ok-Ends.field-0-is c.in-Ok-Ends.ensures.told))
    c.in-Ok-Ends.ensures.log (λ n. (c.finish.ensures.told n).0))

pub returns-in-Err-clause-fetched : goal.returns-in-Err-clause-fetched
returns-in-Err-clause-fetched g c =
    fetched_before (c.args.file.now ∷ []) (c.args.starts.now ∷ []) (g.S.Shelf.log c.args.shelf.now) (g.S.Shelf.log c.begin.new.shelf) c.stop.result
    (fetched_by {A = Unit {0}} (c.args.file.now ∷ []) (g.S.Shelf.log c.args.shelf.now) (g.S.Shelf.log c.begin.new.shelf) Done c.stop.result
    (Err c.in-Err.e) (λ e. absurd cc) c.in-Err.ensures.log (λ n. (c.stop.ensures.told n).0))

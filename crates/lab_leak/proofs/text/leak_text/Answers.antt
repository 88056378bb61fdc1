use Rattle.std.proofs.Common.{◌∙◌, ap, arith}
use Rattle.std.specs.Prelude.{ℕ, List, [], ◌∷◌, Some, Ok, Err}
use Rattle.tim_base.specs.Faults.{Rose}
use Rattle.tool_texts.specs.declared.status.Status.TheVariants.{Done}
use Rattle.tool_stages.proofs.PrepareLemmas.{names_some}
use Rattle.tool_stages.proofs.StopLemmas.{rose_since}
use Rattle.tool_stages.proofs.FetchLemmas.{fetch_then, fetch_stops, not_read}
use Rattle.lab_runs.specs.ShownViews.{shown_of}
use Rattle.lab_runs.proofs.ShownLemmas.{is_accepted, show_not_late}
use Rattle.space_stage.specs.Given.{value_of}
use Rattle.lab_leak.specs.Views.{LeakBy}
use Rattle.lab_leak.proofs.Answering.{no_read_by}
use Rattle.lab_leak.proofs.Given.{file_stops, given_stops, given_goes, given_stop, given_fits}
use Rattle.lab_leak.proofs.text.leak_text.Goals as goal

pub returns-in-Err-clause-stop : goal.returns-in-Err-clause-stop
returns-in-Err-clause-stop g c =
    file_stops c.args.refused (λ (name : List ℕ). Rose (g.S.Shelf.faults c.args.shelf.now name) (g.S.Shelf.faults c.shown_file.new.shelf name))
    (g.S.Shelf.content c.args.shelf.now) c.args.file.now c.args.starts.now c.args.name.now c.args.setting.env c.args.setting.budget
    c.in-Err.stop c.in-Err.ensures.stop

pub unwrap-observer-requires : goal.unwrap-observer-requires
unwrap-observer-requires g c =
    names_some c.in-Ok.ensures.ok.program.order c.args.name.now c.in-Ok.shown.observer c.in-Ok.ensures.ok.shown.observes

pub returns-in-Err-given-clause-log : goal.returns-in-Err-given-clause-log
returns-in-Err-given-clause-log g c =
    fetch_then {B = Unit {0}} (c.args.file.now ∷ []) (c.args.starts.now ∷ []) (g.S.Shelf.log c.args.shelf.now) (g.S.Shelf.log c.shown_file.new.shelf)
    (g.S.Shelf.log c.given.new.shelf) c.in-Ok.shown (Err c.in-Err-given.stop) c.in-Ok.ensures.log c.in-Err-given.ensures.log

pub returns-in-Err-given-clause-stop : goal.returns-in-Err-given-clause-stop
returns-in-Err-given-clause-stop g c =
    given_stops c.args.refused (λ (name : List ℕ). Rose (g.S.Shelf.faults c.args.shelf.now name) (g.S.Shelf.faults c.given.new.shelf name))
    (g.S.Shelf.content c.args.shelf.now) c.args.file.now c.args.starts.now c.args.name.now c.args.setting.env c.args.setting.budget
    (g.S.Shelf.content c.shown_file.new.shelf c.args.starts.now) c.in-Ok.shown.labels c.in-Ok.shown.observer c.unwrap-observer.result
    c.in-Ok.shown.image c.program.result.now (c.shown_file.ensures.same c.args.starts.now)
    (c.program.ensures.program ∙ ap (λ l. l.program) c.labelled.ensures) c.in-Ok.ensures.ok
    (Rose (g.S.Shelf.faults c.shown_file.new.shelf c.args.starts.now) (g.S.Shelf.faults c.given.new.shelf c.args.starts.now)) c.in-Err-given.stop
    (rose_since _ _ _ (c.shown_file.ensures.later c.args.starts.now)) c.in-Err-given.ensures.stop

pub given_text-requires-clause-fit : goal.given_text-requires-clause-fit
given_text-requires-clause-fit g c =
    given_fits c.args.refused (λ (name : List ℕ). Rose (g.S.Shelf.faults c.args.shelf.now name) (g.S.Shelf.faults c.given.new.shelf name))
    (g.S.Shelf.content c.args.shelf.now) c.args.file.now c.args.starts.now c.args.name.now c.args.setting.env c.args.setting.budget
    (g.S.Shelf.content c.shown_file.new.shelf c.args.starts.now) c.in-Ok.shown.labels c.in-Ok.shown.observer c.unwrap-observer.result
    c.in-Ok.shown.image c.program.result.now (c.shown_file.ensures.same c.args.starts.now)
    (c.program.ensures.program ∙ ap (λ l. l.program) c.labelled.ensures) c.in-Ok.ensures.ok
    c.unwrap-observer.ensures (value_of c.in-Ok-given.given) c.in-Ok-given.ensures.ok c.in-Ok-given.ensures.valid

pub returns-in-Ok-given_text-clause-same : goal.returns-in-Ok-given_text-clause-same
returns-in-Ok-given_text-clause-same g c = λ name. c.given.ensures.same name ∙ c.shown_file.ensures.same name

pub returns-in-Ok-given_text-clause-later : goal.returns-in-Ok-given_text-clause-later
returns-in-Ok-given_text-clause-later g c = λ name. omega (arith, c.shown_file.ensures.later name, c.given.ensures.later name)

pub returns-in-Ok-given_text-clause-log : goal.returns-in-Ok-given_text-clause-log
returns-in-Ok-given_text-clause-log g c =
    fetch_then (c.args.file.now ∷ []) (c.args.starts.now ∷ []) (g.S.Shelf.log c.args.shelf.now) (g.S.Shelf.log c.shown_file.new.shelf)
    (g.S.Shelf.log c.given.new.shelf) c.in-Ok.shown (Ok c.in-Ok-given.given) c.in-Ok.ensures.log c.in-Ok-given.ensures.log

pub returns-in-Ok-given_text-clause-text : goal.returns-in-Ok-given_text-clause-text
returns-in-Ok-given_text-clause-text g c =
    given_goes c.args.refused (λ (name : List ℕ). Rose (g.S.Shelf.faults c.args.shelf.now name) (g.S.Shelf.faults c.given.new.shelf name))
    (g.S.Shelf.content c.args.shelf.now) c.args.file.now c.args.starts.now c.args.name.now c.args.setting.env c.args.setting.budget
    (g.S.Shelf.content c.shown_file.new.shelf c.args.starts.now) c.in-Ok.shown.labels c.in-Ok.shown.observer c.unwrap-observer.result
    c.in-Ok.shown.image c.program.result.now (c.shown_file.ensures.same c.args.starts.now)
    (c.program.ensures.program ∙ ap (λ l. l.program) c.labelled.ensures) c.in-Ok.ensures.ok
    c.unwrap-observer.ensures (value_of c.in-Ok-given.given) c.in-Ok-given.ensures.ok Done c.in-Ok-given_text.text.items c.in-Ok-given_text.ensures.text

pub returns-in-Err-given_text-clause-log : goal.returns-in-Err-given_text-clause-log
returns-in-Err-given_text-clause-log g c =
    let e = c.in-Err-given_text.stop in
    let labels = c.in-Ok.shown.labels in
    let l = c.unwrap-observer.result in
    let what = value_of c.in-Ok-given.given in
    fetch_stops (Unit {0}) (Unit {0}) (c.args.file.now ∷ c.args.starts.now ∷ []) (g.S.Shelf.log c.args.shelf.now) (g.S.Shelf.log c.given.new.shelf) tt e
    (not_read (LeakBy labels c.args.setting.env c.args.setting.budget (Some l) what)
    (no_read_by labels c.args.setting.env c.args.setting.budget (Some l) what) e c.in-Err-given_text.ensures.stop)
    (fetch_then (c.args.file.now ∷ []) (c.args.starts.now ∷ []) (g.S.Shelf.log c.args.shelf.now) (g.S.Shelf.log c.shown_file.new.shelf)
    (g.S.Shelf.log c.given.new.shelf) c.in-Ok.shown (Ok c.in-Ok-given.given) c.in-Ok.ensures.log c.in-Ok-given.ensures.log)

pub returns-in-Err-given_text-clause-stop : goal.returns-in-Err-given_text-clause-stop
returns-in-Err-given_text-clause-stop g c =
    given_stop c.args.refused (λ (name : List ℕ). Rose (g.S.Shelf.faults c.args.shelf.now name) (g.S.Shelf.faults c.given.new.shelf name))
    (g.S.Shelf.content c.args.shelf.now) c.args.file.now c.args.starts.now c.args.name.now c.args.setting.env c.args.setting.budget
    (g.S.Shelf.content c.shown_file.new.shelf c.args.starts.now) c.in-Ok.shown.labels c.in-Ok.shown.observer c.unwrap-observer.result
    c.in-Ok.shown.image c.program.result.now (c.shown_file.ensures.same c.args.starts.now)
    (c.program.ensures.program ∙ ap (λ l. l.program) c.labelled.ensures) c.in-Ok.ensures.ok
    c.unwrap-observer.ensures (value_of c.in-Ok-given.given) c.in-Ok-given.ensures.ok c.in-Err-given_text.stop c.in-Err-given_text.ensures.stop

pub returns-in-Err-clause-accepted_stop : goal.returns-in-Err-clause-accepted_stop
returns-in-Err-clause-accepted_stop g c = λ e late.
    absurd (show_not_late c.args.refused (λ (name : List ℕ). Rose (g.S.Shelf.faults c.args.shelf.now name) (g.S.Shelf.faults c.shown_file.new.shelf name))
    (g.S.Shelf.content c.args.shelf.now) c.args.file.now (Some c.args.name.now) c.in-Err.stop e c.in-Err.ensures.stop late)

pub returns-in-Err-given-clause-accepted_stop : goal.returns-in-Err-given-clause-accepted_stop
returns-in-Err-given-clause-accepted_stop g c = λ e late.
    is_accepted c.args.refused (g.S.Shelf.content c.args.shelf.now) c.args.file.now (Some c.args.name.now) (shown_of c.in-Ok.shown.labels)
    c.in-Ok.shown.observer c.in-Ok.shown.image e c.in-Ok.ensures.ok

pub returns-in-Ok-given_text-clause-accepted : goal.returns-in-Ok-given_text-clause-accepted
returns-in-Ok-given_text-clause-accepted g c = λ e.
    is_accepted c.args.refused (g.S.Shelf.content c.args.shelf.now) c.args.file.now (Some c.args.name.now) (shown_of c.in-Ok.shown.labels)
    c.in-Ok.shown.observer c.in-Ok.shown.image e c.in-Ok.ensures.ok

pub returns-in-Err-given_text-clause-accepted_stop : goal.returns-in-Err-given_text-clause-accepted_stop
returns-in-Err-given_text-clause-accepted_stop g c = λ e late.
    is_accepted c.args.refused (g.S.Shelf.content c.args.shelf.now) c.args.file.now (Some c.args.name.now) (shown_of c.in-Ok.shown.labels)
    c.in-Ok.shown.observer c.in-Ok.shown.image e c.in-Ok.ensures.ok

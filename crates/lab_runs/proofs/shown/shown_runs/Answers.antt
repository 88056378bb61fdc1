use Rattle.std.proofs.Common.{ap, ◌∙◌, arith}
use Rattle.std.specs.Prelude.{ℕ, List, [], ◌∷◌, Ok, Err, map, option_map}
use Rattle.tim_base.specs.Faults.{Rose}
use Rattle.start_file.specs.Starts.{seen}
use Rattle.tool_stages.proofs.StopLemmas.{rose_since}
use Rattle.tool_stages.proofs.FetchLemmas.{fetch_then}
use Rattle.lab_runs.specs.ShownViews.{shown_of}
use Rattle.lab_runs.proofs.ShownLemmas.{file_stops_runs, starts_stop_runs, runs_of, runs_fit, is_accepted, show_not_late}
use Rattle.lab_runs.proofs.shown.shown_runs.Goals as goal

pub returns-in-Err-clause-stop : goal.returns-in-Err-clause-stop
returns-in-Err-clause-stop g c =
    file_stops_runs c.args.refused_too (option_map (λ s. s.now) c.args.name)
    (λ (name : List ℕ). Rose (g.S.Shelf.faults c.args.shelf.now name) (g.S.Shelf.faults c.shown_file.new.shelf name))
    (g.S.Shelf.content c.args.shelf.now) c.args.file.now c.args.starts.now c.in-Err.stop c.in-Err.ensures.stop

pub returns-in-Ok-listed-clause-ok : goal.returns-in-Ok-listed-clause-ok
returns-in-Ok-listed-clause-ok g c =
    runs_of c.args.refused_too (g.S.Shelf.content c.args.shelf.now) c.args.file.now (option_map (λ s. s.now) c.args.name) (shown_of c.in-Ok.shown.labels)
    c.in-Ok.shown.observer c.in-Ok.shown.image c.args.starts.now (g.S.Shelf.content c.shown_file.new.shelf c.args.starts.now) c.program.result.now
    (map seen c.in-Ok-listed.starts.items) (c.shown_file.ensures.same c.args.starts.now)
    (c.program.ensures.program ∙ ap (λ l. l.program) c.labelled.ensures) c.in-Ok.ensures.ok c.in-Ok-listed.ensures.ok

pub returns-in-Ok-listed-clause-fit : goal.returns-in-Ok-listed-clause-fit
returns-in-Ok-listed-clause-fit g c =
    let x = shown_of c.in-Ok.shown.labels in
    let is = c.program.ensures.program ∙ ap (λ l. l.program) c.labelled.ensures in
    let ss = map seen c.in-Ok-listed.starts.items in
    let name = option_map (λ s. s.now) c.args.name in
    runs_fit c.args.refused_too (g.S.Shelf.content c.args.shelf.now) c.args.file.now name x c.in-Ok.shown.observer c.in-Ok.shown.image
    c.args.starts.now c.program.result.now ss
    (runs_of c.args.refused_too (g.S.Shelf.content c.args.shelf.now) c.args.file.now name x
    c.in-Ok.shown.observer c.in-Ok.shown.image c.args.starts.now (g.S.Shelf.content c.shown_file.new.shelf c.args.starts.now) c.program.result.now
    ss (c.shown_file.ensures.same c.args.starts.now) is c.in-Ok.ensures.ok c.in-Ok-listed.ensures.ok)
    is c.in-Ok-listed.ensures.valid

pub returns-in-Err-listed-clause-stop : goal.returns-in-Err-listed-clause-stop
returns-in-Err-listed-clause-stop g c =
    starts_stop_runs c.args.refused_too (option_map (λ s. s.now) c.args.name)
    (λ (name : List ℕ). Rose (g.S.Shelf.faults c.args.shelf.now name) (g.S.Shelf.faults c.listed.new.shelf name))
    (g.S.Shelf.content c.args.shelf.now) c.args.file.now c.args.starts.now
    (Rose (g.S.Shelf.faults c.shown_file.new.shelf c.args.starts.now) (g.S.Shelf.faults c.listed.new.shelf c.args.starts.now))
    (g.S.Shelf.content c.shown_file.new.shelf c.args.starts.now) (shown_of c.in-Ok.shown.labels) c.in-Ok.shown.observer c.in-Ok.shown.image
    c.program.result.now c.in-Err-listed.stop
    (rose_since _ _ _ (c.shown_file.ensures.later c.args.starts.now)) (c.shown_file.ensures.same c.args.starts.now)
    (c.program.ensures.program ∙ ap (λ l. l.program) c.labelled.ensures) c.in-Ok.ensures.ok c.in-Err-listed.ensures.stop

pub returns-in-Ok-listed-clause-same : goal.returns-in-Ok-listed-clause-same
returns-in-Ok-listed-clause-same g c = λ name. c.listed.ensures.same name ∙ c.shown_file.ensures.same name

pub returns-in-Ok-listed-clause-later : goal.returns-in-Ok-listed-clause-later
returns-in-Ok-listed-clause-later g c = λ name. omega (arith, c.shown_file.ensures.later name, c.listed.ensures.later name)

pub returns-in-Ok-listed-clause-accepted : goal.returns-in-Ok-listed-clause-accepted
returns-in-Ok-listed-clause-accepted g c = λ e.
    is_accepted c.args.refused_too (g.S.Shelf.content c.args.shelf.now) c.args.file.now (option_map (λ s. s.now) c.args.name)
    (shown_of c.in-Ok.shown.labels) c.in-Ok.shown.observer c.in-Ok.shown.image e c.in-Ok.ensures.ok

pub returns-in-Err-listed-clause-accepted_stop : goal.returns-in-Err-listed-clause-accepted_stop
returns-in-Err-listed-clause-accepted_stop g c = λ e late.
    is_accepted c.args.refused_too (g.S.Shelf.content c.args.shelf.now) c.args.file.now (option_map (λ s. s.now) c.args.name)
    (shown_of c.in-Ok.shown.labels) c.in-Ok.shown.observer c.in-Ok.shown.image e c.in-Ok.ensures.ok

pub returns-in-Err-clause-accepted_stop : goal.returns-in-Err-clause-accepted_stop
returns-in-Err-clause-accepted_stop g c = λ e late.
    absurd (show_not_late c.args.refused_too
    (λ (name : List ℕ). Rose (g.S.Shelf.faults c.args.shelf.now name) (g.S.Shelf.faults c.shown_file.new.shelf name))
    (g.S.Shelf.content c.args.shelf.now) c.args.file.now (option_map (λ s. s.now) c.args.name) c.in-Err.stop e c.in-Err.ensures.stop late)

pub returns-in-Ok-listed-clause-log : goal.returns-in-Ok-listed-clause-log
returns-in-Ok-listed-clause-log g c =
    fetch_then (c.args.file.now ∷ []) (c.args.starts.now ∷ []) (g.S.Shelf.log c.args.shelf.now) (g.S.Shelf.log c.shown_file.new.shelf)
    (g.S.Shelf.log c.listed.new.shelf)
    c.in-Ok.shown (Ok c.in-Ok-listed.starts) c.in-Ok.ensures.log c.in-Ok-listed.ensures.log

pub returns-in-Err-listed-clause-log : goal.returns-in-Err-listed-clause-log
returns-in-Err-listed-clause-log g c =
    fetch_then {B = Unit {0}} (c.args.file.now ∷ []) (c.args.starts.now ∷ []) (g.S.Shelf.log c.args.shelf.now) (g.S.Shelf.log c.shown_file.new.shelf)
    (g.S.Shelf.log c.listed.new.shelf)
    c.in-Ok.shown (Err c.in-Err-listed.stop) c.in-Ok.ensures.log c.in-Err-listed.ensures.log

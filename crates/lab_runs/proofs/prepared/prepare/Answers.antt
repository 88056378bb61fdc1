use Rattle.std.proofs.Common.{ap, ◌∙◌, arith}
use Rattle.std.specs.Prelude.{ℕ, List, map}
use Rattle.tim_base.specs.Faults.{Rose}
use Rattle.start_file.specs.Starts.{seen}
use Rattle.tool_stages.proofs.PrepareLemmas.{names_some}
use Rattle.tool_stages.proofs.StopLemmas.{rose_since}
use Rattle.tool_stages.proofs.FetchLemmas.{fetch_then}
use Rattle.lab_runs.proofs.NameLemmas.{compile_not_late}
use Rattle.lab_runs.proofs.PreparedLemmas.{compile_stops_audit, starts_stop_audit, prepared_of, audit_fits}
use Rattle.std.specs.Prelude.{[], ◌∷◌, Some, Ok, Err}
use Rattle.lab_runs.proofs.prepared.prepare.Goals as goal

pub returns-in-Err-clause-stop : goal.returns-in-Err-clause-stop
returns-in-Err-clause-stop g c =
    compile_stops_audit (λ (name : List ℕ). Rose (g.S.Shelf.faults c.args.shelf.now name) (g.S.Shelf.faults c.compile.new.shelf name))
    (g.S.Shelf.content c.args.shelf.now)
    c.args.file.now c.args.name.now _ (g.S.Shelf.content c.args.shelf.now c.args.starts.now) c.in-Err.stop c.in-Err.ensures.stop

pub unwrap-observer-requires : goal.unwrap-observer-requires
unwrap-observer-requires g c = names_some c.in-Ok.ensures.ok.program.order c.args.name.now c.in-Ok.compiled.observer c.in-Ok.ensures.ok.observes

pub returns-in-Ok-listed-clause-ok : goal.returns-in-Ok-listed-clause-ok
returns-in-Ok-listed-clause-ok g c =
    let q = c.in-Ok.compiled.typed.labelled in
    prepared_of (g.S.Shelf.content c.args.shelf.now) c.args.file.now c.args.name.now (g.S.Shelf.content c.compile.new.shelf c.args.starts.now)
    (g.S.Shelf.content c.args.shelf.now c.args.starts.now)
    q c.in-Ok.compiled.observer c.unwrap-observer.result c.in-Ok.compiled.image c.program.result.now (map seen c.in-Ok-listed.starts.items)
    c.unwrap-observer.ensures (c.compile.ensures.same c.args.starts.now) (c.program.ensures.program ∙ ap (λ l. l.program) c.labelled.ensures.labelled)
    c.in-Ok.ensures.ok c.in-Ok-listed.ensures.ok

pub returns-in-Ok-listed-clause-fit : goal.returns-in-Ok-listed-clause-fit
returns-in-Ok-listed-clause-fit g c =
    let q = c.in-Ok.compiled.typed.labelled in
    let is = c.program.ensures.program ∙ ap (λ l. l.program) c.labelled.ensures.labelled in
    let h = prepared_of (g.S.Shelf.content c.args.shelf.now) c.args.file.now c.args.name.now (g.S.Shelf.content c.compile.new.shelf c.args.starts.now)
    (g.S.Shelf.content c.args.shelf.now c.args.starts.now)
    q c.in-Ok.compiled.observer c.unwrap-observer.result c.in-Ok.compiled.image c.program.result.now (map seen c.in-Ok-listed.starts.items)
    c.unwrap-observer.ensures (c.compile.ensures.same c.args.starts.now) is c.in-Ok.ensures.ok c.in-Ok-listed.ensures.ok in
    audit_fits (g.S.Shelf.content c.args.shelf.now) c.args.file.now c.args.name.now (g.S.Shelf.content c.args.shelf.now c.args.starts.now)
    q c.unwrap-observer.result c.in-Ok.compiled.image c.program.result.now (map seen c.in-Ok-listed.starts.items) h is c.in-Ok-listed.ensures.valid

pub returns-in-Err-listed-clause-stop : goal.returns-in-Err-listed-clause-stop
returns-in-Err-listed-clause-stop g c =
    starts_stop_audit (λ (name : List ℕ). Rose (g.S.Shelf.faults c.args.shelf.now name) (g.S.Shelf.faults c.listed.new.shelf name))
    (g.S.Shelf.content c.args.shelf.now)
    c.args.file.now c.args.name.now
    (Rose (g.S.Shelf.faults c.compile.new.shelf c.args.starts.now) (g.S.Shelf.faults c.listed.new.shelf c.args.starts.now))
    (Rose (g.S.Shelf.faults c.args.shelf.now c.args.starts.now) (g.S.Shelf.faults c.listed.new.shelf c.args.starts.now))
    (g.S.Shelf.content c.compile.new.shelf c.args.starts.now) (g.S.Shelf.content c.args.shelf.now c.args.starts.now)
    c.in-Ok.compiled.typed.labelled c.in-Ok.compiled.observer c.in-Ok.compiled.image c.program.result.now c.in-Err-listed.stop
    (rose_since _ _ _ (c.compile.ensures.later c.args.starts.now)) (c.compile.ensures.same c.args.starts.now)
    (c.program.ensures.program ∙ ap (λ l. l.program) c.labelled.ensures.labelled) c.in-Ok.ensures.ok c.in-Err-listed.ensures.stop

pub returns-in-Ok-listed-clause-same : goal.returns-in-Ok-listed-clause-same
returns-in-Ok-listed-clause-same g c = λ name. c.listed.ensures.same name ∙ c.compile.ensures.same name

pub returns-in-Ok-listed-clause-later : goal.returns-in-Ok-listed-clause-later
returns-in-Ok-listed-clause-later g c = λ name. omega (arith, c.compile.ensures.later name, c.listed.ensures.later name)

pub returns-in-Ok-listed-clause-log : goal.returns-in-Ok-listed-clause-log
returns-in-Ok-listed-clause-log g c =
    fetch_then (c.args.file.now ∷ []) (c.args.starts.now ∷ []) (g.S.Shelf.log c.args.shelf.now) (g.S.Shelf.log c.compile.new.shelf)
    (g.S.Shelf.log c.listed.new.shelf)
    c.in-Ok.compiled (Ok c.in-Ok-listed.starts) c.in-Ok.ensures.log c.in-Ok-listed.ensures.log

pub returns-in-Err-listed-clause-log : goal.returns-in-Err-listed-clause-log
returns-in-Err-listed-clause-log g c =
    fetch_then {B = Unit {0}} (c.args.file.now ∷ []) (c.args.starts.now ∷ []) (g.S.Shelf.log c.args.shelf.now) (g.S.Shelf.log c.compile.new.shelf)
    (g.S.Shelf.log c.listed.new.shelf)
    c.in-Ok.compiled (Err c.in-Err-listed.stop) c.in-Ok.ensures.log c.in-Err-listed.ensures.log

pub returns-in-Err-clause-accepted_stop : goal.returns-in-Err-clause-accepted_stop
returns-in-Err-clause-accepted_stop g c = λ late.
    absurd (compile_not_late (λ (name : List ℕ). Rose (g.S.Shelf.faults c.args.shelf.now name) (g.S.Shelf.faults c.compile.new.shelf name))
    (g.S.Shelf.content c.args.shelf.now)
    c.args.file.now (Some c.args.name.now) c.in-Err.stop c.in-Err.ensures.stop late)

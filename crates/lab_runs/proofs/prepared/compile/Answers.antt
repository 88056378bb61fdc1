use Rattle.std.specs.Prelude.{ℕ, List, [], ◌∷◌, Some}
use Rattle.lab_runs.specs.Labels.{NamedProgramStops}
use Rattle.tool_stages.proofs.FetchLemmas.{fetch_stops, not_read}
use Rattle.tim_base.specs.Faults.{Rose}
use Rattle.tool_stages.proofs.PrepareLemmas.{compiled_of}
use Rattle.lab_runs.proofs.PreparedLemmas.{program_stops, never_read}
use Rattle.tool_stages.proofs.SoundLemmas.{accepted}
use Rattle.lab_runs.proofs.prepared.compile.Goals as goal

pub returns-in-Err-clause-log : goal.returns-in-Err-clause-log
returns-in-Err-clause-log g c =
    let w = Some c.args.name.now in
    fetch_stops _ (Unit {0}) (c.args.file.now ∷ []) (g.S.Shelf.log c.args.shelf.now) (g.S.Shelf.log c.read_program.new.shelf)
    c.in_ok-program.program c.in-Err.stop
    (not_read (NamedProgramStops c.in_ok-program.program w) (never_read c.in_ok-program.program w) c.in-Err.stop c.in-Err.ensures.stop)
    c.in_ok-program.ensures.log

pub returns-in-Ok-clause-ok : goal.returns-in-Ok-clause-ok
returns-in-Ok-clause-ok g c =
    compiled_of (g.S.Shelf.content c.args.shelf.now) c.args.file.now (Some c.args.name.now) c.in_ok-program.program
    c.in-Ok.compiled.typed.labelled c.in-Ok.compiled.observer c.in-Ok.compiled.image c.in_ok-program.ensures.ok c.in-Ok.ensures.ok

pub returns-in-Err-clause-stop : goal.returns-in-Err-clause-stop
returns-in-Err-clause-stop g c =
    program_stops (λ (name : List ℕ). Rose (g.S.Shelf.faults c.args.shelf.now name) (g.S.Shelf.faults c.read_program.new.shelf name))
    (g.S.Shelf.content c.args.shelf.now)
    c.args.file.now (Some c.args.name.now) c.in_ok-program.program c.in-Err.stop c.in_ok-program.ensures.ok c.in-Err.ensures.stop

pub returns-in-Ok-clause-accepted : goal.returns-in-Ok-clause-accepted
returns-in-Ok-clause-accepted g c =
    accepted _ c.in_ok-program.program c.in-Ok.compiled.typed.labelled c.in_ok-program.ensures.ok c.in-Ok.ensures.ok.types

use Rattle.std.specs.Prelude.{ℕ, List, [], ◌∷◌, option_map}
use Rattle.tim_base.specs.Faults.{Rose}
use Rattle.tool_stages.proofs.FetchLemmas.{fetch_stops, not_read}
use Rattle.lab_runs.specs.Shown.{ProgramShowStops}
use Rattle.lab_runs.proofs.ShownLemmas.{no_read, program_stops}
use Rattle.lab_runs.proofs.shown.shown_file.Goals as goal

pub returns-in-Ok-clause-ok : goal.returns-in-Ok-clause-ok
returns-in-Ok-clause-ok g c = record { program = c.in_ok-program.program; reads = c.in_ok-program.ensures.ok; shown = c.in-Ok.ensures.ok }

pub returns-in-Err-clause-stop : goal.returns-in-Err-clause-stop
returns-in-Err-clause-stop g c =
    program_stops c.args.refused_too (option_map (λ s. s.now) c.args.name)
    (λ (name : List ℕ). Rose (g.S.Shelf.faults c.args.shelf.now name) (g.S.Shelf.faults c.read_program.new.shelf name))
    (g.S.Shelf.content c.args.shelf.now) c.args.file.now c.in_ok-program.program c.in-Err.stop c.in_ok-program.ensures.ok c.in-Err.ensures.stop

pub returns-in-Err-clause-log : goal.returns-in-Err-clause-log
returns-in-Err-clause-log g c =
    let p = c.in_ok-program.program in
    let e = c.in-Err.stop in
    let name = option_map (λ s. s.now) c.args.name in
    fetch_stops (Unit {0}) (Unit {0}) (c.args.file.now ∷ []) (g.S.Shelf.log c.args.shelf.now) (g.S.Shelf.log c.read_program.new.shelf) tt e
    (not_read (ProgramShowStops c.args.refused_too p name) (no_read c.args.refused_too p name) e c.in-Err.ensures.stop) c.in_ok-program.ensures.log

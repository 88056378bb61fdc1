use Rattle.std.proofs.Common.{refl, ◌∙◌}
use Rattle.std.specs.Prelude.{option_map}
use Rattle.start_file.specs.Starts.{seen}
use Rattle.tool_stages.proofs.GoesLemmas.{first_at}
use Rattle.tool_stages.proofs.FetchLemmas.{fetch_then}
use Rattle.std.specs.Prelude.{ℕ, List, [], ◌∷◌, Ok, Err}
use Rattle.start_file.specs.declared.start.Start.{Start}
use Rattle.tim_base.specs.Faults.{Rose}
use Rattle.tool_stages.specs.Fetches.{named}
use Rattle.tool_stages.proofs.StopLemmas.{source_first_stops, rose_since}
use Rattle.tool_stages.proofs.started.source.Goals as goal

pub returns-in-Ok-first_start-clause-ok : goal.returns-in-Ok-first_start-clause-ok
returns-in-Ok-first_start-clause-ok g c = record {
  reads = c.in-Ok.ensures.ok;
  first = first_at (g.S.Shelf.content c.read_program.new.shelf) (g.S.Shelf.content c.args.shelf.now) (option_map (λ s. s.now) c.args.starts) c.in-Ok.program
      c.in-Ok.program (seen c.in-Ok-first_start.start)
      c.read_program.ensures.same refl c.in-Ok-first_start.ensures.ok;
}

pub returns-in-Ok-first_start-clause-log : goal.returns-in-Ok-first_start-clause-log
returns-in-Ok-first_start-clause-log g c =
    fetch_then (c.args.file.now ∷ []) (named (option_map (λ s. s.now) c.args.starts)) (g.S.Shelf.log c.args.shelf.now) (g.S.Shelf.log c.read_program.new.shelf)
    (g.S.Shelf.log c.first_start.new.shelf)
    c.in-Ok.program (Ok c.in-Ok-first_start.start) c.in-Ok.ensures.log c.in-Ok-first_start.ensures.log

pub returns-in-Err-first_start-clause-log : goal.returns-in-Err-first_start-clause-log
returns-in-Err-first_start-clause-log g c =
    fetch_then {B = Start} (c.args.file.now ∷ []) (named (option_map (λ s. s.now) c.args.starts)) (g.S.Shelf.log c.args.shelf.now)
    (g.S.Shelf.log c.read_program.new.shelf) (g.S.Shelf.log c.first_start.new.shelf)
    c.in-Ok.program (Err c.in-Err-first_start.stop) c.in-Ok.ensures.log c.in-Err-first_start.ensures.log

pub returns-in-Err-first_start-clause-stop : goal.returns-in-Err-first_start-clause-stop
returns-in-Err-first_start-clause-stop g c =
    source_first_stops (λ (name : List ℕ). Rose (g.S.Shelf.faults c.read_program.new.shelf name) (g.S.Shelf.faults c.first_start.new.shelf name))
    (λ (name : List ℕ). Rose (g.S.Shelf.faults c.args.shelf.now name) (g.S.Shelf.faults c.first_start.new.shelf name))
    (g.S.Shelf.content c.read_program.new.shelf) (g.S.Shelf.content c.args.shelf.now) c.args.file.now (option_map (λ s. s.now) c.args.starts)
    c.in-Ok.program c.in-Err-first_start.stop
    (λ name. rose_since _ _ _ (c.read_program.ensures.later name)) c.read_program.ensures.same c.in-Ok.ensures.ok c.in-Err-first_start.ensures.stop

pub returns-in-Ok-first_start-clause-same : goal.returns-in-Ok-first_start-clause-same
returns-in-Ok-first_start-clause-same g c = λ name. c.first_start.ensures.same name ∙ c.read_program.ensures.same name

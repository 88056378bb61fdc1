use Rattle.std.proofs.Common.{ap, ◌∙◌, arith}
use Rattle.std.specs.Prelude.{ℕ, List, option_map}
use Rattle.tim_base.specs.Faults.{Rose}
use Rattle.start_file.specs.Starts.{seen}
use Rattle.tool_stages.proofs.GoesLemmas.{first_at}
use Rattle.tool_stages.proofs.StopLemmas.{compile_stops, later_first_stops, rose_since}
use Rattle.tool_stages.proofs.EarlyLemmas.{compile_not_late}
use Rattle.tool_stages.proofs.FetchLemmas.{fetch_then, fetch_stop}
use Rattle.std.specs.Prelude.{[], ◌∷◌, Ok, Err}
use Rattle.start_file.specs.declared.start.Start.{Start}
use Rattle.tool_stages.specs.Fetches.{named}
use Rattle.tool_stages.proofs.started.ready.Goals as goal

pub returns-in-Err-clause-stop : goal.returns-in-Err-clause-stop
returns-in-Err-clause-stop g c =
    let rises = λ (name : List ℕ). Rose (g.S.Shelf.faults c.args.shelf.now name) (g.S.Shelf.faults c.compile.new.shelf name) in
    compile_stops rises rises (g.S.Shelf.content c.args.shelf.now) c.args.file.now (option_map (λ s. s.now) c.args.starts) (option_map (λ s. s.now) c.args.name)
    c.in-Err.stop (λ r. r) c.in-Err.ensures.stop

pub returns-in-Err-first_start-clause-stop : goal.returns-in-Err-first_start-clause-stop
returns-in-Err-first_start-clause-stop g c =
    let q = c.in-Ok.compiled.typed.labelled in
    let is = c.program.ensures.program ∙ ap (λ l. l.program) c.labelled.ensures.labelled in
    later_first_stops (λ (name : List ℕ). Rose (g.S.Shelf.faults c.compile.new.shelf name) (g.S.Shelf.faults c.first_start.new.shelf name))
    (λ (name : List ℕ). Rose (g.S.Shelf.faults c.args.shelf.now name) (g.S.Shelf.faults c.first_start.new.shelf name))
    (g.S.Shelf.content c.compile.new.shelf) (g.S.Shelf.content c.args.shelf.now) c.args.file.now (option_map (λ s. s.now) c.args.starts)
    (option_map (λ s. s.now) c.args.name)
    q c.in-Ok.compiled.observer c.in-Ok.compiled.image c.program.result.now c.in-Err-first_start.stop
    (λ name. rose_since _ _ _ (c.compile.ensures.later name)) c.compile.ensures.same is c.in-Ok.ensures.ok c.in-Err-first_start.ensures.stop

pub returns-in-Ok-first_start-clause-same : goal.returns-in-Ok-first_start-clause-same
returns-in-Ok-first_start-clause-same g c = λ name. c.first_start.ensures.same name ∙ c.compile.ensures.same name

pub returns-in-Ok-first_start-clause-later : goal.returns-in-Ok-first_start-clause-later
returns-in-Ok-first_start-clause-later g c = λ name. omega (arith, c.compile.ensures.later name, c.first_start.ensures.later name)

pub returns-in-Err-first_start-clause-later : goal.returns-in-Err-first_start-clause-later
returns-in-Err-first_start-clause-later g c = λ name. omega (arith, c.compile.ensures.later name, c.first_start.ensures.later name)

pub returns-in-Ok-first_start-clause-ok : goal.returns-in-Ok-first_start-clause-ok
returns-in-Ok-first_start-clause-ok g c = record {
  compiled = c.in-Ok.ensures.ok;
  first = first_at (g.S.Shelf.content c.compile.new.shelf) (g.S.Shelf.content c.args.shelf.now) (option_map (λ s. s.now) c.args.starts) c.program.result.now
      c.in-Ok.compiled.typed.labelled.program (seen c.in-Ok-first_start.start)
      c.compile.ensures.same (c.program.ensures.program ∙ ap (λ l. l.program) c.labelled.ensures.labelled) c.in-Ok-first_start.ensures.ok;
}

pub returns-in-Ok-first_start-clause-log : goal.returns-in-Ok-first_start-clause-log
returns-in-Ok-first_start-clause-log g c =
    fetch_then (c.args.file.now ∷ []) (named (option_map (λ s. s.now) c.args.starts)) (g.S.Shelf.log c.args.shelf.now) (g.S.Shelf.log c.compile.new.shelf)
    (g.S.Shelf.log c.first_start.new.shelf)
    c.in-Ok.compiled (Ok c.in-Ok-first_start.start) c.in-Ok.ensures.log c.in-Ok-first_start.ensures.log

pub returns-in-Err-first_start-clause-log : goal.returns-in-Err-first_start-clause-log
returns-in-Err-first_start-clause-log g c =
    fetch_then {B = Start} (c.args.file.now ∷ []) (named (option_map (λ s. s.now) c.args.starts)) (g.S.Shelf.log c.args.shelf.now)
    (g.S.Shelf.log c.compile.new.shelf) (g.S.Shelf.log c.first_start.new.shelf)
    c.in-Ok.compiled (Err c.in-Err-first_start.stop) c.in-Ok.ensures.log c.in-Err-first_start.ensures.log

pub returns-in-Err-clause-log : goal.returns-in-Err-clause-log
returns-in-Err-clause-log g c =
    fetch_stop Start Start (c.args.file.now ∷ []) (named (option_map (λ s. s.now) c.args.starts)) (g.S.Shelf.log c.args.shelf.now)
    (g.S.Shelf.log c.compile.new.shelf) c.in-Err.stop c.in-Err.ensures.log

pub returns-in-Err-clause-accepted_stop : goal.returns-in-Err-clause-accepted_stop
returns-in-Err-clause-accepted_stop g c = λ late.
    absurd (compile_not_late (λ (name : List ℕ). Rose (g.S.Shelf.faults c.args.shelf.now name) (g.S.Shelf.faults c.compile.new.shelf name))
    (g.S.Shelf.content c.args.shelf.now)
    c.args.file.now (option_map (λ s. s.now) c.args.name) c.in-Err.stop c.in-Err.ensures.stop late)

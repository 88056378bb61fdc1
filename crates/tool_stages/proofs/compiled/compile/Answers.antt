use Rattle.std.proofs.Common.{inl, inr}
use Rattle.std.specs.Prelude.{ℕ, List, [], ◌∷◌, Option, option_map}
use Rattle.mit_syntax.specs.Program.{Syntax}
use Rattle.tool_texts.specs.declared.status.Status.TheVariants.{ReadFault}
use Rattle.tool_stages.specs.Begins.{ProgramCompileStops}
use Rattle.tool_stages.proofs.FetchLemmas.{fetch_stops, not_read}
use Rattle.tim_base.specs.Faults.{Rose}
use Rattle.tool_stages.proofs.PrepareLemmas.{compiled_of, program_stops}
use Rattle.tool_stages.proofs.SoundLemmas.{accepted}
use Rattle.tool_stages.proofs.compiled.compile.Goals as goal

-- no stage behind the reading tells a read fault
never_read : (p : Syntax) (w : Option (List ℕ)) (t : List ℕ) → ProgramCompileStops p w ReadFault t → ⊥
never_read p w t h = elim h [
  | inl b ↦ b
  | inr k ↦ elim k.2 [
    | inl b ↦ b
    | inr m ↦ elim m.2 [
      | inl b ↦ b
      | inr n ↦ n.2
    ]
  ]
]

pub returns-in-Err-clause-log : goal.returns-in-Err-clause-log
returns-in-Err-clause-log g c =
    let w = option_map (λ s. s.now) c.args.name in
    fetch_stops _ (Unit {0}) (c.args.file.now ∷ []) (g.S.Shelf.log c.args.shelf.now) (g.S.Shelf.log c.read_program.new.shelf)
    c.in_ok-program.program c.in-Err.stop
    (not_read (ProgramCompileStops c.in_ok-program.program w) (never_read c.in_ok-program.program w) c.in-Err.stop c.in-Err.ensures.stop)
    c.in_ok-program.ensures.log

pub returns-in-Ok-clause-ok : goal.returns-in-Ok-clause-ok
returns-in-Ok-clause-ok g c =
    compiled_of (g.S.Shelf.content c.args.shelf.now) c.args.file.now (option_map (λ s. s.now) c.args.name) c.in_ok-program.program
    c.in-Ok.compiled.typed.labelled c.in-Ok.compiled.observer c.in-Ok.compiled.image c.in_ok-program.ensures.ok c.in-Ok.ensures.ok

pub returns-in-Err-clause-stop : goal.returns-in-Err-clause-stop
returns-in-Err-clause-stop g c =
    program_stops (λ (name : List ℕ). Rose (g.S.Shelf.faults c.args.shelf.now name) (g.S.Shelf.faults c.read_program.new.shelf name))
    (g.S.Shelf.content c.args.shelf.now)
    c.args.file.now (option_map (λ s. s.now) c.args.name) c.in_ok-program.program c.in-Err.stop c.in_ok-program.ensures.ok c.in-Err.ensures.stop

pub returns-in-Ok-clause-accepted : goal.returns-in-Ok-clause-accepted
returns-in-Ok-clause-accepted g c =
    accepted _ c.in_ok-program.program c.in-Ok.compiled.typed.labelled c.in_ok-program.ensures.ok c.in-Ok.ensures.ok.types

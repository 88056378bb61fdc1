use Rattle.std.specs.Prelude.{ℕ, List, [], ◌∷◌}
use Rattle.std.proofs.Common.{sym, ◌∙◌}
use Rattle.tim_base.specs.Faults.{Rose}
use Rattle.tool_stages.proofs.FetchLemmas.{fetch_stops, not_read}
use Rattle.lab_steady.specs.Answer.{OfProgram}
use Rattle.lab_steady.specs.Told.{status_told, text_told}
use Rattle.lab_steady.proofs.Stages.{no_read, told_source, source_stops, source_short}
use Rattle.lab_steady.proofs.program.steady_told.Goals as goal

pub program_told-requires : goal.program_told-requires
program_told-requires g c =
    source_short c.args.costing (λ (name : List ℕ). Rose (g.S.Shelf.faults c.args.shelf.now name) (g.S.Shelf.faults c.read_source.new.shelf name))
    (g.S.Shelf.content c.args.shelf.now) c.args.file.now c.as_slice.result.now c.args.observer.now c.args.parts.now c.args.whole
    c.in_ok-text.field-0.program (c.in_ok-text.ensures.ok.0, c.in_ok-text.ensures.ok.1 ∙ sym c.as_slice.ensures.value)

pub returns-in-Ok-clause-told : goal.returns-in-Ok-clause-told
returns-in-Ok-clause-told g c =
    told_source c.args.costing (λ (name : List ℕ). Rose (g.S.Shelf.faults c.args.shelf.now name) (g.S.Shelf.faults c.read_source.new.shelf name))
    (g.S.Shelf.content c.args.shelf.now) c.args.file.now c.as_slice.result.now c.args.observer.now c.args.parts.now c.args.whole
    c.in_ok-text.field-0.program (c.in_ok-text.ensures.ok.0, c.in_ok-text.ensures.ok.1 ∙ sym c.as_slice.ensures.value)
    (status_told c.in-Ok.told) (text_told c.in-Ok.told) c.in-Ok.ensures.ok

pub returns-clause-stop : goal.returns-clause-stop
returns-clause-stop g c =
    source_stops c.args.costing (λ (name : List ℕ). Rose (g.S.Shelf.faults c.args.shelf.now name) (g.S.Shelf.faults c.read_source.new.shelf name))
    (g.S.Shelf.content c.args.shelf.now) c.args.file.now c.as_slice.result.now c.args.observer.now c.args.parts.now c.args.whole
    c.in_ok-text.field-0.program (c.in_ok-text.ensures.ok.0, c.in_ok-text.ensures.ok.1 ∙ sym c.as_slice.ensures.value) c.in-Err.stop c.in-Err.ensures.stop

pub returns-clause-log : goal.returns-clause-log
returns-clause-log g c =
    let text = c.as_slice.result.now in
    let p = c.in_ok-text.field-0.program in
    let e = c.in-Err.stop in
    fetch_stops (Unit {0}) (Unit {0}) (c.args.file.now ∷ []) (g.S.Shelf.log c.args.shelf.now) (g.S.Shelf.log c.read_source.new.shelf) tt e
    (not_read (OfProgram c.args.costing text p c.args.observer.now c.args.parts.now c.args.whole)
    (no_read c.args.costing text p c.args.observer.now c.args.parts.now c.args.whole) e c.in-Err.ensures.stop) c.in_ok-text.ensures.log

use Rattle.std.proofs.Common.{refl, ap, inr, ◌∙◌}
use Rattle.tool_texts.specs.Texts.{accepted_line}
use Rattle.std.specs.Prelude.{ℕ, List, [], ◌∷◌}
use Rattle.tool_stages.proofs.FetchLemmas.{fetch_stops, fetched_on, not_read}
use Rattle.mit_syntax.specs.Program.{Syntax}
use Rattle.tool_stages.specs.Stages.{TypeStops}
use Rattle.mit_tool.proofs.commands.check.check_line.Goals as goal

pub returns-clause-line : goal.returns-clause-line
returns-clause-line g c =
    let line = c.accepted-line.ensures ∙ (ap (λ n. accepted_line n c.mitigates.result) c.commands.ensures ∙ ap (accepted_line _) c.mitigates.ensures) in
    inr (c.in_ok-program.program, c.in_ok-program.ensures.ok, inr (c.in_ok-typed.field-0.labelled, c.in_ok-typed.ensures.ok, (refl, line)))

pub returns-in_err-typed-clause-log : goal.returns-in_err-typed-clause-log
returns-in_err-typed-clause-log g c =
    let e = c.in_err-typed.field-0.0 in
    fetched_on c.from_residual-in_err-typed.result e (c.args.file.now ∷ []) (g.S.Shelf.log c.args.shelf.now) (g.S.Shelf.log c.read_program.new.shelf)
    c.from_residual-in_err-typed.ensures.1
    (fetch_stops Syntax (List ℕ) (c.args.file.now ∷ []) (g.S.Shelf.log c.args.shelf.now) (g.S.Shelf.log c.read_program.new.shelf) c.in_ok-program.program e
    (not_read (TypeStops c.in_ok-program.program) (λ t h. h) e c.in_err-typed.ensures.stop) c.in_ok-program.ensures.log)

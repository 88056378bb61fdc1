use Rattle.std.proofs.Common.{ap, inr, refl, subst, ◌∙◌}
use Rattle.std.specs.Prelude.{ℕ, List, Option, [], ◌∷◌, Ok, Err}
use Rattle.tim_base.specs.Faults.{Rose}
use Rattle.tool_words.specs.WordsAsked.{recheck}
use Rattle.tool_texts.specs.Texts.{rechecked_line}
use Rattle.tool_texts.specs.Ends.{IsStop}
use Rattle.tool_stages.specs.Stages.{Rechecks}
use Rattle.mit_tool.specs.Commands.{IsAnswer}
use Rattle.tool_stages.proofs.StopLemmas.{rose_since}
use Rattle.mit_tool.proofs.StopLemmas.{handed_on, later_certificate_stops}
use Rattle.tool_stages.proofs.FetchLemmas.{fetch_then, fetched_on}
use Rattle.mit_tool.proofs.commands.recheck.recheck_line.Goals as goal

pub returns-clause-line : goal.returns-clause-line
returns-clause-line g c =
    let p = c.in_ok-program.program in
    let q = c.in_ok-rechecked_by.field-0.labelled in
    let line = c.rechecked-line.ensures ∙ (ap (λ n. rechecked_line n c.mitigates.result) c.commands.ensures ∙ ap (rechecked_line _) c.mitigates.ensures) in
    let rechecks = subst (λ (z : Option (Option (List ℕ))). Rechecks z p q) (c.read_program.ensures.same c.args.certificate.now)
    c.in_ok-rechecked_by.ensures.ok in
    inr (p, c.in_ok-program.ensures.ok, inr (q, rechecks, (refl, line)))

pub returns-in_err-rechecked_by-clause-stop : goal.returns-in_err-rechecked_by-clause-stop
returns-in_err-rechecked_by-clause-stop g c =
    let rises = λ (name : List ℕ). Rose (g.S.Shelf.faults c.args.shelf.now name) (g.S.Shelf.faults c.rechecked_by.new.shelf name) in
    let content = g.S.Shelf.content c.args.shelf.now in
    let e = c.in_err-rechecked_by.field-0.0 in
    handed_on c.from_residual-in_err-rechecked_by.result e (IsStop (IsAnswer rises content (recheck c.args.file.now c.args.certificate.now)))
    c.from_residual-in_err-rechecked_by.ensures.1
    (later_certificate_stops (λ (name : List ℕ). Rose (g.S.Shelf.faults c.read_program.new.shelf name) (g.S.Shelf.faults c.rechecked_by.new.shelf name)) rises
    (g.S.Shelf.content c.read_program.new.shelf) content c.args.file.now c.args.certificate.now c.in_ok-program.program e
    (λ name. rose_since _ _ _ (c.read_program.ensures.later name)) c.read_program.ensures.same c.in_ok-program.ensures.ok c.in_err-rechecked_by.ensures.stop)

pub returns-in_err-rechecked_by-clause-log : goal.returns-in_err-rechecked_by-clause-log
returns-in_err-rechecked_by-clause-log g c =
    let e = c.in_err-rechecked_by.field-0.0 in
    fetched_on c.from_residual-in_err-rechecked_by.result e (c.args.file.now ∷ c.args.certificate.now ∷ []) (g.S.Shelf.log c.args.shelf.now)
    (g.S.Shelf.log c.rechecked_by.new.shelf) c.from_residual-in_err-rechecked_by.ensures.1
    (fetch_then {B = List ℕ} (c.args.file.now ∷ []) (c.args.certificate.now ∷ []) (g.S.Shelf.log c.args.shelf.now) (g.S.Shelf.log c.read_program.new.shelf)
    (g.S.Shelf.log c.rechecked_by.new.shelf)
    c.in_ok-program.program (Err e) c.in_ok-program.ensures.log c.in_err-rechecked_by.ensures.log)

pub returns-clause-log : goal.returns-clause-log
returns-clause-log g c =
    fetch_then (c.args.file.now ∷ []) (c.args.certificate.now ∷ []) (g.S.Shelf.log c.args.shelf.now) (g.S.Shelf.log c.read_program.new.shelf)
    (g.S.Shelf.log c.rechecked_by.new.shelf)
    c.in_ok-program.program (Ok c.in_ok-rechecked_by.field-0) c.in_ok-program.ensures.log c.in_ok-rechecked_by.ensures.log

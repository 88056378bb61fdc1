use Rattle.std.proofs.Common.{refl, sym, subst}
use Rattle.std.specs.Prelude.{ℕ, List, Some}
use Rattle.tim_base.specs.Faults.{Rose}
use Rattle.tool_words.specs.WordsAsked.{check}
use Rattle.tool_texts.specs.declared.status.Status.TheVariants.{Done}
use Rattle.tool_texts.specs.Ends.{Nothing, status_of, stop_text}
use Rattle.tool_stages.specs.Begins.{CheckStops}
use Rattle.mit_tool.specs.Commands.{IsAnswer}
use Rattle.tool_texts.proofs.EndLemmas.{ends_finish, ends_stop}
use Rattle.mit_tool.proofs.StopLemmas.{check_stops}
use Rattle.mit_tool.proofs.LoggedLemmas.{one_piece}
use Rattle.mit_tool.specs.Logged.{ArePieces}
use Rattle.mit_tool.proofs.main_call.check.Goals as goal

pub returns-in-Ok-clause-answered : goal.returns-in-Ok-clause-answered
returns-in-Ok-clause-answered g c =
    let answer = IsAnswer (λ (name : List ℕ). Rose (g.S.Shelf.faults c.args.shelf.now name) (g.S.Shelf.faults c.check_line.new.shelf name))
    (g.S.Shelf.content c.args.shelf.now) (check c.args.file.now) in
    ends_finish (g.W.Sink.taken c.args.out.now) (g.W.Sink.taken c.finish.new.out) Nothing answer Done c.bytes.result.now c.finish.result
    (subst (λ (t : List ℕ). answer Done t) (sym c.bytes.ensures) c.in-Ok.ensures.line) c.finish.ensures.told c.finish.ensures.prefix

pub returns-in-Err-clause-answered : goal.returns-in-Err-clause-answered
returns-in-Err-clause-answered g c =
    let rises = λ (name : List ℕ). Rose (g.S.Shelf.faults c.args.shelf.now name) (g.S.Shelf.faults c.check_line.new.shelf name) in
    let content = g.S.Shelf.content c.args.shelf.now in
    let e = c.in-Err.e in
    ends_stop (g.W.Sink.taken c.args.out.now) (g.W.Sink.taken c.stop.new.out) Nothing (CheckStops rises content c.args.file.now)
    (IsAnswer rises content (check c.args.file.now)) (status_of e) (stop_text e) c.stop.result refl
    (λ t. check_stops rises content c.args.file.now (status_of e) t) c.in-Err.ensures.stop c.stop.ensures.told c.stop.ensures.prefix

pub returns-in-Err-clause-pieces : goal.returns-in-Err-clause-pieces
returns-in-Err-clause-pieces g c =
    let e = c.in-Err.e in
    one_piece (ArePieces (Some (check c.args.file.now))) (status_of e) c.stop.result (stop_text e) (g.W.Sink.log c.args.out.now)
    (g.W.Sink.log c.stop.new.out) (stop_text e, refl)
    (λ n. (c.stop.ensures.told n).0) c.stop.ensures.sent c.stop.ensures.broken

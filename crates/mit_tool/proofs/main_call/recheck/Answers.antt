use Rattle.std.proofs.Common.{refl, sym, subst, Err}
use Rattle.std.specs.Prelude.{ℕ, List, [], ◌∷◌, Ok}
use Rattle.tim_base.specs.Faults.{Rose}
use Rattle.tool_words.specs.WordsAsked.{recheck}
use Rattle.tool_texts.specs.declared.status.Status.TheVariants.{Done}
use Rattle.tool_texts.specs.Ends.{Nothing, status_of, stop_text}
use Rattle.mit_tool.specs.Commands.{IsAnswer}
use Rattle.tool_texts.proofs.EndLemmas.{ends_finish, ends_stop, no_fault}
use Rattle.mit_tool.proofs.CommandLemmas.{recheck_no_fault}
use Rattle.tool_stages.proofs.FetchLemmas.{fetched_by}
use Rattle.mit_tool.proofs.main_call.recheck.Goals as goal

pub returns-in-Ok-clause-answered : goal.returns-in-Ok-clause-answered
returns-in-Ok-clause-answered g c =
    let rises = λ (name : List ℕ). Rose (g.S.Shelf.faults c.args.shelf.now name) (g.S.Shelf.faults c.recheck_line.new.shelf name) in
    let answer = IsAnswer rises (g.S.Shelf.content c.args.shelf.now) (recheck c.args.file.now c.args.certificate.now) in
    ends_finish (g.W.Sink.taken c.args.out.now) (g.W.Sink.taken c.finish.new.out) Nothing answer Done c.bytes.result.now c.finish.result
    (subst (λ (t : List ℕ). answer Done t) (sym c.bytes.ensures) c.in-Ok.ensures.line) c.finish.ensures.told c.finish.ensures.prefix

pub stop-requires : goal.stop-requires
stop-requires g c =
    let rises = λ (name : List ℕ). Rose (g.S.Shelf.faults c.args.shelf.now name) (g.S.Shelf.faults c.recheck_line.new.shelf name) in
    let content = g.S.Shelf.content c.args.shelf.now in
    let answer = IsAnswer rises content (recheck c.args.file.now c.args.certificate.now) in
    no_fault answer (Err c.in-Err.e) (recheck_no_fault rises content c.args.file.now c.args.certificate.now) c.in-Err.ensures.stop

pub returns-in-Err-clause-answered : goal.returns-in-Err-clause-answered
returns-in-Err-clause-answered g c =
    let rises = λ (name : List ℕ). Rose (g.S.Shelf.faults c.args.shelf.now name) (g.S.Shelf.faults c.recheck_line.new.shelf name) in
    let answer = IsAnswer rises (g.S.Shelf.content c.args.shelf.now) (recheck c.args.file.now c.args.certificate.now) in
    let e = c.in-Err.e in
    ends_stop (g.W.Sink.taken c.args.out.now) (g.W.Sink.taken c.stop.new.out) Nothing answer answer (status_of e) (stop_text e) c.stop.result refl
    (λ t x. x) c.in-Err.ensures.stop c.stop.ensures.told c.stop.ensures.prefix

pub returns-in-Ok-clause-fetched : goal.returns-in-Ok-clause-fetched
returns-in-Ok-clause-fetched g c =
    fetched_by {A = Unit {0}} (c.args.file.now ∷ c.args.certificate.now ∷ []) (g.S.Shelf.log c.args.shelf.now)
    (g.S.Shelf.log c.recheck_line.new.shelf) Done c.finish.result (Ok tt)
    (λ e. absurd cc) c.in-Ok.ensures.log (λ n. (c.finish.ensures.told n).0)

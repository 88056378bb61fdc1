use Rattle.std.proofs.Common.{refl}
use Rattle.std.specs.Prelude.{ℕ, List, option_map, ◌∷◌, Ok}
use Rattle.tim_base.specs.Faults.{Rose}
use Rattle.start_file.specs.Starts.{seen}
use Rattle.tool_words.specs.WordsAsked.{run}
use Rattle.tool_texts.specs.Ends.{Nothing, status_of, stop_text}
use Rattle.tool_stages.specs.Begins.{RunStops}
use Rattle.mit_tool.specs.Answers.{HasRun}
use Rattle.mit_tool.specs.Commands.{IsAnswer}
use Rattle.tool_texts.proofs.EndLemmas.{ends_map, ends_stop}
use Rattle.mit_tool.proofs.StopLemmas.{ready_tells, run_stops}
use Rattle.tool_stages.proofs.FetchLemmas.{fetched_by}
use Rattle.mit_tool.proofs.LoggedLemmas.{stop_alone, run_stopped}
use Rattle.mit_tool.specs.Logged.{IsRunLine}
use Rattle.tool_stages.specs.Fetches.{named}
use Rattle.mit_tool.proofs.commands.run.run.Goals as goal

pub returns-in-Ok-clause-answered : goal.returns-in-Ok-clause-answered
returns-in-Ok-clause-answered g c =
    let rises = λ (name : List ℕ). Rose (g.S.Shelf.faults c.args.shelf.now name) (g.S.Shelf.faults c.ready.new.shelf name) in
    let content = g.S.Shelf.content c.args.shelf.now in
    let starts = option_map (λ s. s.now) c.args.starts in
    let name = option_map (λ s. s.now) c.args.name in
    let p = c.in-Ok.program in
    let start = seen c.in-Ok.start in
    ends_map (g.W.Sink.taken c.args.out.now) (g.W.Sink.taken c.run_named.new.out) Nothing Nothing
    (HasRun c.args.setting.env c.args.setting.budget p.typed.labelled p.observer p.image start)
    (IsAnswer rises content (run c.args.file.now starts c.args.setting.env c.args.setting.budget name)) c.run_named.result (λ b h. h)
    (λ s t. ready_tells rises content c.args.file.now starts name c.args.setting.env c.args.setting.budget p.typed.labelled p.observer p.image
    start s t c.in-Ok.ensures.ok)
    c.run_named.ensures.ended

pub returns-in-Err-clause-answered : goal.returns-in-Err-clause-answered
returns-in-Err-clause-answered g c =
    let rises = λ (name : List ℕ). Rose (g.S.Shelf.faults c.args.shelf.now name) (g.S.Shelf.faults c.ready.new.shelf name) in
    let content = g.S.Shelf.content c.args.shelf.now in
    let starts = option_map (λ s. s.now) c.args.starts in
    let name = option_map (λ s. s.now) c.args.name in
    let e = c.in-Err.e in
    ends_stop (g.W.Sink.taken c.args.out.now) (g.W.Sink.taken c.stop.new.out) Nothing
    (RunStops rises content c.args.file.now starts name)
    (IsAnswer rises content (run c.args.file.now starts c.args.setting.env c.args.setting.budget name)) (status_of e) (stop_text e) c.stop.result refl
    (λ t. run_stops rises content c.args.file.now starts name c.args.setting.env c.args.setting.budget (status_of e) t)
    c.in-Err.ensures.stop c.stop.ensures.told c.stop.ensures.prefix

pub returns-in-Ok-clause-fetched : goal.returns-in-Ok-clause-fetched
returns-in-Ok-clause-fetched g c =
    fetched_by {A = Unit {0}} (c.args.file.now ∷ named (option_map (λ s. s.now) c.args.starts)) (g.S.Shelf.log c.args.shelf.now)
    (g.S.Shelf.log c.ready.new.shelf) c.run_named.result c.run_named.result (Ok tt)
    c.run_named.ensures.unread c.in-Ok.ensures.log (λ n. refl)

pub returns-in-Err-clause-pieces : goal.returns-in-Err-clause-pieces
returns-in-Err-clause-pieces g c =
    let rises = λ (name : List ℕ). Rose (g.S.Shelf.faults c.args.shelf.now name) (g.S.Shelf.faults c.ready.new.shelf name) in
    let e = c.in-Err.e in
    stop_alone IsRunLine e c.stop.result (g.W.Sink.log c.args.out.now) (g.W.Sink.log c.stop.new.out)
    (run_stopped rises (g.S.Shelf.content c.args.shelf.now) c.args.file.now (option_map (λ s. s.now) c.args.starts)
    (option_map (λ s. s.now) c.args.name) e c.in-Err.ensures.stop)
    (λ n. (c.stop.ensures.told n).0) c.stop.ensures.sent c.stop.ensures.broken

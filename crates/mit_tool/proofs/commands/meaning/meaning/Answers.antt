use Rattle.std.proofs.Common.{refl, inl, sym, subst}
use Rattle.std.specs.Prelude.{ℕ, List, option_map, ◌∷◌, Ok}
use Rattle.tim_base.specs.Faults.{Rose}
use Rattle.start_file.specs.Starts.{seen}
use Rattle.tool_words.specs.WordsAsked.{meaning}
use Rattle.tool_texts.specs.Ends.{status_of, stop_text}
use Rattle.tool_stages.specs.Begins.{MeaningStops}
use Rattle.mit_tool.specs.Commands.{IsAnswer, Before}
use Rattle.tool_texts.proofs.EndLemmas.{ends_stop}
use Rattle.mit_tool.proofs.StopLemmas.{meaning_stops, meaning_done, meaning_short, meaning_broke}
use Rattle.tool_stages.proofs.FetchLemmas.{fetched_by}
use Rattle.mit_tool.proofs.LoggedLemmas.{stop_alone, meaning_stopped, line_after, stop_after, broken_lines}
use Rattle.mit_tool.specs.Logged.{IsMeaningLine}
use Rattle.tool_stages.specs.Fetches.{named}
use Rattle.tool_texts.specs.Texts.{memory_line}
use Rattle.tool_texts.specs.declared.status.Status.TheVariants.{Done, Memory, WriteFault}
use Rattle.mit_tool.proofs.commands.meaning.meaning.Goals as goal

pub returns-in-Err-clause-answered : goal.returns-in-Err-clause-answered
returns-in-Err-clause-answered g c =
    let rises = λ (name : List ℕ). Rose (g.S.Shelf.faults c.args.shelf.now name) (g.S.Shelf.faults c.source.new.shelf name) in
    let content = g.S.Shelf.content c.args.shelf.now in
    let starts = option_map (λ s. s.now) c.args.starts in
    let e = c.in-Err.e in
    ends_stop (g.W.Sink.taken c.args.out.now) (g.W.Sink.taken c.stop.new.out) (Before content (meaning c.args.file.now starts c.args.steps))
    (MeaningStops rises content c.args.file.now starts)
    (IsAnswer rises content (meaning c.args.file.now starts c.args.steps)) (status_of e) (stop_text e) c.stop.result (inl refl)
    (λ t. meaning_stops rises content c.args.file.now starts c.args.steps (status_of e) t) c.in-Err.ensures.stop c.stop.ensures.told c.stop.ensures.prefix

pub returns-in-Ok-walk-clause-answered : goal.returns-in-Ok-walk-clause-answered
returns-in-Ok-walk-clause-answered g c =
    meaning_done (λ (name : List ℕ). Rose (g.S.Shelf.faults c.args.shelf.now name) (g.S.Shelf.faults c.source.new.shelf name))
    (g.S.Shelf.content c.args.shelf.now) c.args.file.now (option_map (λ s. s.now) c.args.starts) c.args.steps
    c.in-Ok.source.0 (seen c.in-Ok.source.1) c.as_slice.result.now c.in-Ok-walk.line c.bytes.result.now (g.W.Sink.taken c.args.out.now)
    (g.W.Sink.taken c.walk.new.out) (g.W.Sink.taken c.finish.new.out) c.finish.result
    c.in-Ok.ensures.ok c.as_slice.ensures.value c.in-Ok-walk.ensures.last c.in-Ok-walk.ensures.text c.bytes.ensures
    c.finish.ensures.told c.finish.ensures.prefix

pub returns-in-Err-Memory-clause-answered : goal.returns-in-Err-Memory-clause-answered
returns-in-Err-Memory-clause-answered g c =
    meaning_short (λ (name : List ℕ). Rose (g.S.Shelf.faults c.args.shelf.now name) (g.S.Shelf.faults c.source.new.shelf name))
    (g.S.Shelf.content c.args.shelf.now) c.args.file.now (option_map (λ s. s.now) c.args.starts) c.args.steps
    c.in-Ok.source.0 (seen c.in-Ok.source.1) c.as_slice.result.now (g.W.Sink.taken c.args.out.now) (g.W.Sink.taken c.walk.new.out)
    (g.W.Sink.taken c.stop_for_memory.new.out) c.stop_for_memory.result
    c.in-Ok.ensures.ok c.as_slice.ensures.value (c.walk.ensures.some (cc)) c.stop_for_memory.ensures.told c.stop_for_memory.ensures.prefix

pub returns-clause-answered : goal.returns-clause-answered
returns-clause-answered g c =
    meaning_broke (λ (name : List ℕ). Rose (g.S.Shelf.faults c.args.shelf.now name) (g.S.Shelf.faults c.source.new.shelf name))
    (g.S.Shelf.content c.args.shelf.now) c.args.file.now (option_map (λ s. s.now) c.args.starts) c.args.steps
    c.in-Ok.source.0 (seen c.in-Ok.source.1) c.as_slice.result.now (g.W.Sink.taken c.args.out.now) (g.W.Sink.taken c.walk.new.out)
    c.in-Ok.ensures.ok c.as_slice.ensures.value (c.walk.ensures.prefix (cc))

pub returns-in-Err-clause-pieces : goal.returns-in-Err-clause-pieces
returns-in-Err-clause-pieces g c =
    let rises = λ (name : List ℕ). Rose (g.S.Shelf.faults c.args.shelf.now name) (g.S.Shelf.faults c.source.new.shelf name) in
    let e = c.in-Err.e in
    stop_alone IsMeaningLine e c.stop.result (g.W.Sink.log c.args.out.now) (g.W.Sink.log c.stop.new.out)
    (meaning_stopped rises (g.S.Shelf.content c.args.shelf.now) c.args.file.now (option_map (λ s. s.now) c.args.starts) e c.in-Err.ensures.stop)
    (λ n. (c.stop.ensures.told n).0) c.stop.ensures.sent c.stop.ensures.broken

pub returns-in-Ok-walk-clause-fetched : goal.returns-in-Ok-walk-clause-fetched
returns-in-Ok-walk-clause-fetched g c =
    fetched_by {A = Unit {0}} (c.args.file.now ∷ named (option_map (λ s. s.now) c.args.starts)) (g.S.Shelf.log c.args.shelf.now)
    (g.S.Shelf.log c.source.new.shelf) Done c.finish.result (Ok tt) (λ e. absurd cc) c.in-Ok.ensures.log (λ n. (c.finish.ensures.told n).0)

pub returns-in-Ok-walk-clause-pieces : goal.returns-in-Ok-walk-clause-pieces
returns-in-Ok-walk-clause-pieces g c =
    let sent = c.in-Ok-walk.ensures.sent in
    line_after IsMeaningLine Done c.finish.result sent.0 c.bytes.result.now (g.W.Sink.log c.args.out.now) (g.W.Sink.log c.walk.new.out)
    (g.W.Sink.log c.finish.new.out) sent.1
    (subst IsMeaningLine (sym c.bytes.ensures) c.in-Ok-walk.ensures.last_line) sent.2
    (λ n. (c.finish.ensures.told n).0) c.finish.ensures.sent c.finish.ensures.broken

pub returns-in-Err-Memory-clause-fetched : goal.returns-in-Err-Memory-clause-fetched
returns-in-Err-Memory-clause-fetched g c =
    fetched_by {A = Unit {0}} (c.args.file.now ∷ named (option_map (λ s. s.now) c.args.starts)) (g.S.Shelf.log c.args.shelf.now)
    (g.S.Shelf.log c.source.new.shelf) Memory c.stop_for_memory.result (Ok tt) (λ e. absurd cc) c.in-Ok.ensures.log
    (λ n. (c.stop_for_memory.ensures.told n).0)

pub returns-in-Err-Memory-clause-pieces : goal.returns-in-Err-Memory-clause-pieces
returns-in-Err-Memory-clause-pieces g c =
    let sent = c.walk.ensures.sent_some (cc) in
    stop_after IsMeaningLine Memory c.stop_for_memory.result sent.0 memory_line (g.W.Sink.log c.args.out.now) (g.W.Sink.log c.walk.new.out)
    (g.W.Sink.log c.stop_for_memory.new.out) sent.1
    (λ e. absurd cc) (λ e. absurd cc) sent.2 (λ n. (c.stop_for_memory.ensures.told n).0) c.stop_for_memory.ensures.sent
    c.stop_for_memory.ensures.broken

pub returns-clause-fetched : goal.returns-clause-fetched
returns-clause-fetched g c =
    fetched_by {A = Unit {0}} (c.args.file.now ∷ named (option_map (λ s. s.now) c.args.starts)) (g.S.Shelf.log c.args.shelf.now)
    (g.S.Shelf.log c.source.new.shelf) WriteFault WriteFault (Ok tt) (λ e. absurd cc) c.in-Ok.ensures.log (λ n. refl)

pub returns-clause-pieces : goal.returns-clause-pieces
returns-clause-pieces g c =
    let broken = c.walk.ensures.broken (cc) in
    broken_lines IsMeaningLine broken.0 (g.W.Sink.log c.args.out.now) (g.W.Sink.log c.walk.new.out) broken.1 broken.2

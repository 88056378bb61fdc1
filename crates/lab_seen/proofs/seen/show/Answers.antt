use Rattle.std.proofs.Common.{refl}
use Rattle.std.specs.Prelude.{ℕ, List, [], ◌∷◌, Ok, Err, map}
use Rattle.tim_base.specs.Faults.{Rose}
use Rattle.start_file.specs.Starts.{seen}
use Rattle.tool_texts.specs.declared.status.Status.TheVariants.{Done, Memory, WriteFault}
use Rattle.tool_texts.specs.Ends.{status_of}
use Rattle.tool_stages.proofs.EarlyLemmas.{past_told}
use Rattle.tool_stages.proofs.FetchLemmas.{fetched_by}
use Rattle.tool_stages.proofs.PrepareLemmas.{names_some}
use Rattle.lab_runs.specs.ShownViews.{shown_of}
use Rattle.lab_seen.proofs.SeenLemmas.{can_run_for, seen_stops, seen_done, seen_short, seen_broke, seen_broke_head}
use Rattle.lab_seen.proofs.seen.show.Goals as goal

pub returns-in-Err-clause-answered : goal.returns-in-Err-clause-answered
returns-in-Err-clause-answered g c =
    seen_stops (λ (name : List ℕ). Rose (g.S.Shelf.faults c.args.shelf.now name) (g.S.Shelf.faults c.shown_runs.new.shelf name))
    (g.S.Shelf.content c.args.shelf.now) c.args.file.now c.args.starts.now c.args.observer.now
    c.args.setting.env c.args.setting.budget c.args.refused (g.W.Sink.taken c.args.out.now) (g.W.Sink.taken c.stop.new.out) c.in-Err.e c.stop.result
    c.in-Err.ensures.stop c.stop.ensures.told c.stop.ensures.prefix

pub unwrap-label-requires : goal.unwrap-label-requires
unwrap-label-requires g c =
    names_some c.in-Ok.ensures.ok.has.program.order c.args.observer.now c.in-Ok.runs.program.observer c.in-Ok.ensures.ok.has.shown.observes

pub write_lines-requires : goal.write_lines-requires
write_lines-requires g c =
    let p = c.in-Ok.runs in
    record {
      fit = can_run_for (shown_of p.program.labels).labelled p.program.observer c.unwrap-label.result p.program.image (map seen p.starts.items)
          c.unwrap-label.ensures c.in-Ok.ensures.fit;
    }

pub returns-in-Err-write_head-clause-answered : goal.returns-in-Err-write_head-clause-answered
returns-in-Err-write_head-clause-answered g c =
    let p = c.in-Ok.runs in
    seen_broke_head (λ (name : List ℕ). Rose (g.S.Shelf.faults c.args.shelf.now name) (g.S.Shelf.faults c.shown_runs.new.shelf name))
    (g.S.Shelf.content c.args.shelf.now) c.args.file.now c.args.starts.now c.args.observer.now
    c.args.setting.env c.args.setting.budget c.args.refused (shown_of p.program.labels) p.program.observer c.unwrap-label.result p.program.image
    (map seen p.starts.items) c.unwrap-label.ensures c.in-Ok.ensures.ok (g.W.Sink.taken c.args.out.now) (g.W.Sink.taken c.write_head.new.out)
    c.in-Err-write_head.ensures.prefix

pub returns-in-Ok-write_lines-clause-answered : goal.returns-in-Ok-write_lines-clause-answered
returns-in-Ok-write_lines-clause-answered g c =
    let p = c.in-Ok.runs in
    seen_done (λ (name : List ℕ). Rose (g.S.Shelf.faults c.args.shelf.now name) (g.S.Shelf.faults c.shown_runs.new.shelf name))
    (g.S.Shelf.content c.args.shelf.now) c.args.file.now c.args.starts.now c.args.observer.now
    c.args.setting.env c.args.setting.budget c.args.refused (shown_of p.program.labels) p.program.observer c.unwrap-label.result p.program.image
    (map seen p.starts.items) c.unwrap-label.ensures c.in-Ok.ensures.ok (g.W.Sink.taken c.args.out.now) (g.W.Sink.taken c.write_head.new.out)
    (g.W.Sink.taken c.write_lines.new.out) c.in-Ok-write_head.ensures.text c.in-Ok-write_lines.ensures.text

pub returns-in-Err-Memory-clause-answered : goal.returns-in-Err-Memory-clause-answered
returns-in-Err-Memory-clause-answered g c =
    let p = c.in-Ok.runs in
    seen_short (λ (name : List ℕ). Rose (g.S.Shelf.faults c.args.shelf.now name) (g.S.Shelf.faults c.shown_runs.new.shelf name))
    (g.S.Shelf.content c.args.shelf.now) c.args.file.now c.args.starts.now c.args.observer.now
    c.args.setting.env c.args.setting.budget c.args.refused (shown_of p.program.labels) p.program.observer c.unwrap-label.result p.program.image
    (map seen p.starts.items) c.unwrap-label.ensures c.in-Ok.ensures.ok (g.W.Sink.taken c.args.out.now) (g.W.Sink.taken c.write_head.new.out)
    (g.W.Sink.taken c.write_lines.new.out)
    (g.W.Sink.taken c.stop_for_memory.new.out) c.stop_for_memory.result c.in-Ok-write_head.ensures.text (c.write_lines.ensures.some (cc))
    c.stop_for_memory.ensures.told c.stop_for_memory.ensures.prefix

pub returns-clause-answered : goal.returns-clause-answered
returns-clause-answered g c =
    let p = c.in-Ok.runs in
    seen_broke (λ (name : List ℕ). Rose (g.S.Shelf.faults c.args.shelf.now name) (g.S.Shelf.faults c.shown_runs.new.shelf name))
    (g.S.Shelf.content c.args.shelf.now) c.args.file.now c.args.starts.now c.args.observer.now
    c.args.setting.env c.args.setting.budget c.args.refused (shown_of p.program.labels) p.program.observer c.unwrap-label.result p.program.image
    (map seen p.starts.items) c.unwrap-label.ensures c.in-Ok.ensures.ok (g.W.Sink.taken c.args.out.now) (g.W.Sink.taken c.write_head.new.out)
    (g.W.Sink.taken c.write_lines.new.out) c.in-Ok-write_head.ensures.text (c.write_lines.ensures.prefix (cc))

pub returns-in-Err-clause-accepted : goal.returns-in-Err-clause-accepted
returns-in-Err-clause-accepted g c = λ e past.
    c.in-Err.ensures.accepted_stop e (past_told c.stop.result (status_of c.in-Err.e) (λ n. (c.stop.ensures.told n).0) past)

pub returns-in-Err-clause-fetched : goal.returns-in-Err-clause-fetched
returns-in-Err-clause-fetched g c =
    fetched_by {A = Unit {0}} (c.args.file.now ∷ c.args.starts.now ∷ []) (g.S.Shelf.log c.args.shelf.now) (g.S.Shelf.log c.shown_runs.new.shelf)
    Done c.stop.result (Err c.in-Err.e) (λ e. absurd cc) c.in-Err.ensures.log (λ n. (c.stop.ensures.told n).0)

pub returns-in-Ok-write_lines-clause-fetched : goal.returns-in-Ok-write_lines-clause-fetched
returns-in-Ok-write_lines-clause-fetched g c =
    fetched_by {A = Unit {0}} (c.args.file.now ∷ c.args.starts.now ∷ []) (g.S.Shelf.log c.args.shelf.now) (g.S.Shelf.log c.shown_runs.new.shelf)
    Done Done (Ok tt) (λ e. absurd cc) c.in-Ok.ensures.log (λ n. refl)

pub returns-in-Err-Memory-clause-fetched : goal.returns-in-Err-Memory-clause-fetched
returns-in-Err-Memory-clause-fetched g c =
    fetched_by {A = Unit {0}} (c.args.file.now ∷ c.args.starts.now ∷ []) (g.S.Shelf.log c.args.shelf.now) (g.S.Shelf.log c.shown_runs.new.shelf)
    Memory c.stop_for_memory.result (Ok tt) (λ e. absurd cc) c.in-Ok.ensures.log (λ n. (c.stop_for_memory.ensures.told n).0)

pub returns-clause-fetched : goal.returns-clause-fetched
returns-clause-fetched g c =
    fetched_by {A = Unit {0}} (c.args.file.now ∷ c.args.starts.now ∷ []) (g.S.Shelf.log c.args.shelf.now) (g.S.Shelf.log c.shown_runs.new.shelf)
    WriteFault WriteFault (Ok tt) (λ e. absurd cc) c.in-Ok.ensures.log (λ n. refl)

pub returns-in-Err-write_head-clause-fetched : goal.returns-in-Err-write_head-clause-fetched
returns-in-Err-write_head-clause-fetched g c =
    fetched_by {A = Unit {0}} (c.args.file.now ∷ c.args.starts.now ∷ []) (g.S.Shelf.log c.args.shelf.now) (g.S.Shelf.log c.shown_runs.new.shelf)
    WriteFault WriteFault (Ok tt) (λ e. absurd cc) c.in-Ok.ensures.log (λ n. refl)

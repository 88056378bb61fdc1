use Rattle.std.specs.Prelude.{ℕ, List, option_map}
use Rattle.tim_base.specs.Faults.{Rose}
use Rattle.lab_runs.proofs.ShownLemmas.{show_completes}
use Rattle.lab_timeline.specs.Timed.{AreTimelines, TimelinesBefore}
use Rattle.lab_timeline.proofs.timeline.timeline.Goals as goal

pub returns-clause-complete : goal.returns-clause-complete
returns-clause-complete g c = λ can n m k.
    let observer = option_map (λ s. s.now) c.args.observer in
    show_completes c.args.refused (λ (name : List ℕ). Rose (g.S.Shelf.faults c.args.shelf.now name) (g.S.Shelf.faults c.show.new.shelf name))
    (g.S.Shelf.content c.args.shelf.now) c.args.file.now c.args.starts.now observer
    (AreTimelines c.args.setting.env c.args.setting.budget) (g.W.Sink.taken c.args.out.now) (g.W.Sink.taken c.show.new.out)
    (TimelinesBefore (g.S.Shelf.content c.args.shelf.now) c.args.file.now c.args.starts.now observer c.args.setting.env c.args.setting.budget c.args.refused)
    c.show.result (Rose (g.W.Sink.faults c.args.out.now) (g.W.Sink.faults c.show.new.out)) c.show.ensures.answered c.show.ensures.write can n m k

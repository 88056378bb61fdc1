use Rattle.std.specs.Prelude.{ℕ, List, Some}
use Rattle.tim_base.specs.Faults.{Rose}
use Rattle.lab_runs.proofs.ShownLemmas.{show_completes}
use Rattle.lab_seen.specs.Seen.{AreLines, SeenBefore}
use Rattle.lab_seen.proofs.seen.seen.Goals as goal

pub returns-clause-complete : goal.returns-clause-complete
returns-clause-complete g c = λ can n m k.
    show_completes c.args.refused (λ (name : List ℕ). Rose (g.S.Shelf.faults c.args.shelf.now name) (g.S.Shelf.faults c.show.new.shelf name))
    (g.S.Shelf.content c.args.shelf.now) c.args.file.now c.args.starts.now (Some c.args.observer.now)
    (AreLines c.args.setting.env c.args.setting.budget) (g.W.Sink.taken c.args.out.now) (g.W.Sink.taken c.show.new.out)
    (SeenBefore (g.S.Shelf.content c.args.shelf.now) c.args.file.now c.args.starts.now c.args.observer.now c.args.setting.env c.args.setting.budget
    c.args.refused)
    c.show.result (Rose (g.W.Sink.faults c.args.out.now) (g.W.Sink.faults c.show.new.out)) c.show.ensures.answered c.show.ensures.write can n m k

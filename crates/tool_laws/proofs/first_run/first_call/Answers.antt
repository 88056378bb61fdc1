use Rattle.std.specs.Prelude.{map, string_bytes}
use Rattle.tim_base.specs.Faults.{Rose}
use Rattle.tool_laws.proofs.RunEnded.{call_ends}
use Rattle.tool_laws.proofs.first_run.first_call.Goals as goal

pub returns : goal.returns
returns g c =
    let failed = Rose (g.W.Sink.faults c.args.out.now) (g.W.Sink.faults c.mitigate_main.new.out) in
    λ e h n m. call_ends c.one_answer.ensures
    (g.S.Shelf.content c.args.shelf.now) (g.S.Shelf.faults c.args.shelf.now) (g.S.Shelf.faults c.mitigate_main.new.shelf)
    (g.W.Sink.taken c.args.out.now) (g.W.Sink.taken c.mitigate_main.new.out) c.mitigate_main.result
    (map string_bytes c.args.words.now) failed e h n m c.mitigate_main.ensures.write c.mitigate_main.ensures.answered

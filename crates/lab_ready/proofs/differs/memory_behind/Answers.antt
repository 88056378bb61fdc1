use Rattle.std.proofs.Common.{length, sym, ◌∙◌}
use Rattle.std.proofs.lemmas.Bool.{ltb-true}
use Rattle.lab_ready.proofs.Pieces.{memory_at, memory_past}
use Rattle.lab_ready.proofs.differs.memory_behind.Goals as goal

pub returns-in-Some : goal.returns-in-Some
returns-in-Some c =
    c.as_slice.ensures.value ∙ memory_at c.args.starts.now c.args.behind c.in-Some.start.now
    (ltb-true c.args.behind (length c.args.starts.now) (sym c.in-Some.ensures.lookup.0)) c.in-Some.ensures.lookup.1

pub returns-in-None : goal.returns-in-None
returns-in-None c =
    memory_past c.args.starts.now c.args.behind c.in-None.ensures.lookup.3

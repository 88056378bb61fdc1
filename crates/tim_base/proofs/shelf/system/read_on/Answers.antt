use Rattle.tim_base.proofs.ShelfLemmas.{kept-Consumes}
use Rattle.tim_base.proofs.shelf.system.read_on.Goals as goal

pub returns-in-Ok-clause-bytes : goal.returns-in-Ok-clause-bytes
returns-in-Ok-clause-bytes g c = (kept-Consumes _ _ _ _ c.loop.invariant c.in-Ok.ensures.bytes.0, c.in-Ok.ensures.bytes.1)

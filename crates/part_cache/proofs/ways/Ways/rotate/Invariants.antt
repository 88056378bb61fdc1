use Rattle.part_cache.proofs.Rotate.{Carried}
use Rattle.part_cache.proofs.ways.Ways.rotate.Given as goal

abbrev pub invariant-loop-to : goal.invariant-loop-to
invariant-loop-to l = Carried l.fn.self.tags l.self.tags l.tag l.last l.to

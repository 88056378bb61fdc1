use Rattle.std.proofs.Common.{refl, arith}
use Rattle.part_cache.proofs.Rotate.{Carried-more, carried_all}
use Rattle.part_cache.proofs.ways.Ways.rotate.Goals as goal

pub loop-to-preserved : goal.loop-to-preserved
loop-to-preserved c =
    Carried-more c.args.self.now.tags c.loop-to.self.tags c.args.tag c.loop-to.last c.loop-to.to _ c.loop-to.invariant (omega arith) refl

pub returns : goal.returns
returns c = carried_all c.args.self.now.tags c.loop-to.self.tags c.args.tag c.loop-to.last c.args.way c.loop-to.to
    c.loop-to.invariant (omega arith) (omega arith)

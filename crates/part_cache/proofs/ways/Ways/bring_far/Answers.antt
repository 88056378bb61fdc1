use Rattle.std.proofs.Common.{length, arith}
use Rattle.part_cache.specs.Ways.{held_tags}
use Rattle.part_cache.proofs.Held.{none_held, some_held}
use Rattle.part_cache.proofs.Rotate.{brought_row, brought_set}
use Rattle.part_cache.proofs.ways.Ways.bring_far.Goals as goal

pub returns-in-Some-clause-held : goal.returns-in-Some-clause-held
returns-in-Some-clause-held c = some_held c.args.self.now.tags c.requires c.args.tag c.in-Some.way c.ranges.tag.fits c.in-Some.ensures.0 c.in-Some.ensures.1

pub returns-in-Some-clause-row : goal.returns-in-Some-clause-row
returns-in-Some-clause-row c ways few =
    brought_row c.args.self.now.tags c.requires c.args.tag ways c.ranges.tag.fits few c.in-Some.way c.in-Some.ensures.0 c.in-Some.ensures.1
    c.rotate.new.self.tags c.rotate.ensures

pub returns-in-Some-clause-set : goal.returns-in-Some-clause-set
returns-in-Some-clause-set c = brought_set c.args.self.now.tags c.requires c.args.tag (length (held_tags c.args.self.now.tags)) c.ranges.tag.fits (omega arith)
    c.in-Some.way c.in-Some.ensures.0 c.in-Some.ensures.1 c.rotate.new.self.tags c.rotate.ensures

pub returns-in-None-clause-held : goal.returns-in-None-clause-held
returns-in-None-clause-held c = none_held c.args.self.now.tags c.requires c.args.tag c.in-None.ensures

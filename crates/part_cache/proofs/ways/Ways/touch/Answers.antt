use Rattle.std.proofs.Common.{sym}
use Rattle.part_cache.proofs.Held.{none_held}
use Rattle.part_cache.proofs.Rotate.{brought_row, brought_set, pushed_row, pushed_set}
use Rattle.part_cache.proofs.ways.Ways.touch.Goals as goal

pub returns-in-Some-clause-row : goal.returns-in-Some-clause-row
returns-in-Some-clause-row c = brought_row c.args.self.now.tags c.requires.set c.args.tag c.args.ways c.ranges.tag.fits c.requires.few c.in-Some.way
    c.in-Some.ensures.0 c.in-Some.ensures.1 c.rotate.new.self.tags c.rotate.ensures

pub returns-in-Some-clause-set : goal.returns-in-Some-clause-set
returns-in-Some-clause-set c = brought_set c.args.self.now.tags c.requires.set c.args.tag c.args.ways c.ranges.tag.fits c.requires.few c.in-Some.way
    c.in-Some.ensures.0 c.in-Some.ensures.1 c.rotate.new.self.tags c.rotate.ensures

pub returns-in-None-clause-row : goal.returns-in-None-clause-row
returns-in-None-clause-row c = pushed_row c.args.self.now.tags c.requires.set c.args.tag c.args.ways c.ranges.tag.fits c.requires.few c.requires.some
    c.requires.ways (sym (none_held c.args.self.now.tags c.requires.set c.args.tag c.in-None.ensures)) c.rotate-in-None.new.self.tags c.rotate-in-None.ensures

pub returns-in-None-clause-set : goal.returns-in-None-clause-set
returns-in-None-clause-set c = pushed_set c.args.self.now.tags c.requires.set c.args.tag c.args.ways c.ranges.tag.fits c.requires.few c.requires.some
    c.requires.ways (sym (none_held c.args.self.now.tags c.requires.set c.args.tag c.in-None.ensures)) c.rotate-in-None.new.self.tags c.rotate-in-None.ensures

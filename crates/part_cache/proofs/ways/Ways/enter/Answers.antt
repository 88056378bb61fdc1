use Rattle.part_cache.proofs.Rotate.{pushed_row, pushed_set}
use Rattle.part_cache.proofs.ways.Ways.enter.Goals as goal

pub returns-clause-row : goal.returns-clause-row
returns-clause-row c =
    pushed_row c.args.self.now.tags c.requires.set c.args.tag c.args.ways c.ranges.tag.fits c.requires.few c.requires.some c.requires.ways c.requires.absent
    c.rotate.new.self.tags c.rotate.ensures

pub returns-clause-set : goal.returns-clause-set
returns-clause-set c =
    pushed_set c.args.self.now.tags c.requires.set c.args.tag c.args.ways c.ranges.tag.fits c.requires.few c.requires.some c.requires.ways c.requires.absent
    c.rotate.new.self.tags c.rotate.ensures

use Rattle.part_cache.proofs.Held.{none_held, some_held}
use Rattle.part_cache.proofs.ways.Ways.holds.Goals as goal

pub returns-in-Some : goal.returns-in-Some
returns-in-Some c = some_held c.args.self.now.tags c.requires c.args.tag c.in-Some._way c.ranges.tag.fits c.in-Some.ensures.0 c.in-Some.ensures.1

pub returns-in-None : goal.returns-in-None
returns-in-None c = none_held c.args.self.now.tags c.requires c.args.tag c.in-None.ensures

use Rattle.std.proofs.Common.{sym, ◌∙◌}
use Rattle.part_cache.specs.Ways.{held_tags}
use Rattle.part_cache.proofs.Replaced.{come_is}
use Rattle.part_cache.proofs.ways.Ways.come.Goals as goal

pub returns-then-not-holds-clause-row : goal.returns-then-not-holds-clause-row
returns-then-not-holds-clause-row c =
    c.enter.ensures.row ∙ come_is c.args.ways c.args.tag (held_tags c.args.self.now.tags) (sym c.holds.ensures ∙ c.if-not-holds.true)

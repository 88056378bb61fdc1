use Rattle.std.proofs.Common.{sym, ap, ◌∙◌}
use Rattle.part_cache.specs.declared.replacement.Replacement.TheVariants.{LeastRecent}
use Rattle.part_cache.proofs.Flat.{place_is, view_touched}
use Rattle.part_cache.proofs.cache.PartCache.enter.Goals as goal

pub returns-clause-touched : goal.returns-clause-touched
returns-clause-touched c =
    view_touched c.self.inside c.self.invariant c.args.self.now c.self.view_is c.args.tag c.args.label.number c.requires.label _
    (place_is c.from.result c.args.label.number c.args.sets c.self.inside.sets c.set_of-set.result c.args.tag c.from.ensures (c.requires.sets
    ∙ sym (ap (λ v. v.sets) c.self.view_is)) c.set_of-set.ensures) c.index_mut.result.now c.index_mut.ensures.value c.enter.new.self
    LeastRecent c.enter.ensures.row

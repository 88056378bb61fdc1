use Rattle.std.proofs.Common.{refl}
use Rattle.part_cache.proofs.Flat.{place_is, view_touched, touched_history}
use Rattle.part_cache.proofs.cache.PartCache.touch_by.Goals as goal

pub returns-clause-touched : goal.returns-clause-touched
returns-clause-touched c =
    view_touched c.self.inside c.self.invariant c.args.self.now c.self.view_is c.args.tag c.args.ew.number c.requires _
    (place_is c.from.result c.args.ew.number c.self.inside.sets c.self.inside.sets c.set_of.result c.args.tag c.from.ensures refl c.set_of.ensures)
    c.index_mut.result.now c.index_mut.ensures.value c.touch_by.new.self c.args.replacement c.touch_by.ensures.row

pub returns-clause-history : goal.returns-clause-history
returns-clause-history c = touched_history c.args.replacement c.args.self.now _ c.self.inside c.self.view_is c.self.invariant c.args.tag c.args.ew.number
    (returns-clause-touched c)

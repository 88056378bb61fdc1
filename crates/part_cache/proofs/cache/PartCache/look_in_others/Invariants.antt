use Rattle.std.proofs.Common.{◌≡◌, false, ◌&&◌}
use Rattle.label_lattice.specs.Order.{lattice_of}
use Rattle.part_cache.specs.History.{some_below}
use Rattle.part_cache.specs.Rows.{has}
use Rattle.part_cache.proofs.cache.PartCache.look_in_others.Given as goal

abbrev pub invariant-loop-number : goal.invariant-loop-number
invariant-loop-number l = some_below l.number (λ label. (lattice_of l.self.order).flows label l.er.number && has l.self l.tag label) ≡ false

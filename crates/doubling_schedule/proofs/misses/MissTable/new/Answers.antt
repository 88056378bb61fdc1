use Rattle.doubling_schedule.proofs.SettleLemmas.{slice_index-replicate}
use Rattle.label_lattice.specs.Order.{most_labels}
use Rattle.doubling_schedule.proofs.misses.MissTable.new.Goals as goal

pub invariant_of-result : goal.invariant_of-result
invariant_of-result c = λ l. slice_index-replicate most_labels l

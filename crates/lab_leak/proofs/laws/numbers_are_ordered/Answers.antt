use Rattle.lab_leak.proofs.Ordered.{all_ordered}
use Rattle.lab_leak.proofs.laws.numbers_are_ordered.Goals as goal

pub returns : goal.returns
returns c = all_ordered c.sharp_counts_are_enough.ensures

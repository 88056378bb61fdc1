use Rattle.further_counts.proofs.Twice.{few_twice}
use Rattle.further_counts.proofs.laws.few_twice.Goals as goal

pub returns : goal.returns
returns g c = few_twice _ _ _

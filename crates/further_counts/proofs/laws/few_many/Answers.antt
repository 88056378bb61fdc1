use Rattle.further_counts.proofs.Many.{few_many}
use Rattle.further_counts.proofs.laws.few_many.Goals as goal

pub returns : goal.returns
returns g c = few_many _ _

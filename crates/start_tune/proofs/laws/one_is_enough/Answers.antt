use Rattle.start_tune.proofs.Enough.{one_cheapest_few}
use Rattle.start_tune.proofs.laws.one_is_enough.Goals as goal

pub returns : goal.returns
returns g c maker = one_cheapest_few _ _

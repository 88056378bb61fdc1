use Rattle.sharp_bound.proofs.Firsts.{at_least_one}
use Rattle.sharp_bound.proofs.laws.first_predictions.Goals as goal

pub returns : goal.returns
returns g c = at_least_one _ _

use Rattle.start_tune.proofs.Single.{one_best}
use Rattle.start_tune.proofs.laws.best_are_one.Goals as goal

pub returns : goal.returns
returns g c maker = one_best _ _

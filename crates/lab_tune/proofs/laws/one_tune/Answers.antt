use Rattle.lab_tune.proofs.Single.{one_tune}
use Rattle.lab_tune.proofs.laws.one_tune.Goals as goal

pub returns : goal.returns
returns c = one_tune

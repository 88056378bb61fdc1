use Rattle.gain_bound.proofs.Tries.{tries_name_few}
use Rattle.gain_bound.proofs.laws.few_tries.Goals as goal

pub returns : goal.returns
returns g c = tries_name_few _ _ _

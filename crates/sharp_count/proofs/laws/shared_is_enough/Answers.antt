use Rattle.sharp_count.proofs.Lone.{shared_is_enough}
use Rattle.sharp_count.proofs.laws.shared_is_enough.Goals as goal

pub returns : goal.returns
returns c = shared_is_enough

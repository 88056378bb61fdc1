use Rattle.gain_bound.proofs.Information.{views_tell_few}
use Rattle.gain_bound.proofs.laws.few_bits.Goals as goal

pub returns : goal.returns
returns g c = views_tell_few _ _

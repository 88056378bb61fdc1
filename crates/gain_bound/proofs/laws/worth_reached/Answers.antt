use Rattle.gain_bound.proofs.Reached.{worth_reached}
use Rattle.gain_bound.proofs.laws.worth_reached.Goals as goal

pub returns : goal.returns
returns c = worth_reached

use Rattle.further_counts.proofs.Reached.{guess_reached}
use Rattle.further_counts.proofs.laws.guess_reached.Goals as goal

pub returns : goal.returns
returns c = guess_reached

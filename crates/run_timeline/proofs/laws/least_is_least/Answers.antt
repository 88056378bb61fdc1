use Rattle.run_timeline.proofs.Tallying.{least_first_is}
use Rattle.run_timeline.proofs.laws.least_is_least.Goals as goal

pub returns : goal.returns
returns c = least_first_is

use Rattle.leak_bound.proofs.Choose.{one-rising}
use Rattle.sharp_count.proofs.Listing.{rising_counts}
use Rattle.sharp_count.proofs.laws.rising_counts.Goals as goal

pub returns-clause-exact : goal.returns-clause-exact
returns-clause-exact c = rising_counts

pub returns-clause-one : goal.returns-clause-one
returns-clause-one c = one-rising

use Rattle.leak_bound.proofs.Source.{same_counts}
use Rattle.leak_bound.proofs.laws.labels_keep_counts.Goals as goal

pub returns : goal.returns
returns c = same_counts

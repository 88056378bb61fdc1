use Rattle.further_counts.proofs.Sleeper.{end_tells}
use Rattle.further_counts.proofs.laws.end_tells_flat.Goals as goal

pub returns : goal.returns
returns c = end_tells _ _

use Rattle.std.proofs.Common.{refl}
use Rattle.start_faults.specs.Told.{most_runs}
use Rattle.start_faults.proofs.faults.most_runs.Goals as goal

pub returns : goal.returns
unfolding most_runs
returns c = refl

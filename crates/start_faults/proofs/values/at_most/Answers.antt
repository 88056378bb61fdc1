use Rattle.std.proofs.Common.{refl}
use Rattle.start_faults.specs.Values.{at_most}
use Rattle.start_faults.proofs.values.at_most.Goals as goal

pub returns : goal.returns
unfolding at_most
returns c = refl

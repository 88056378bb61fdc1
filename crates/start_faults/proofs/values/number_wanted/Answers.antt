use Rattle.std.proofs.Common.{refl}
use Rattle.start_faults.specs.Values.{number_wanted}
use Rattle.start_faults.proofs.values.number_wanted.Goals as goal

pub returns : goal.returns
unfolding number_wanted
returns c = refl

use Rattle.std.proofs.Common.{refl}
use Rattle.start_faults.specs.Found.{array_of}
use Rattle.start_faults.proofs.found.array_of.Goals as goal

pub returns : goal.returns
unfolding array_of
returns c = refl

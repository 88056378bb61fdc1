use Rattle.std.proofs.Common.{refl}
use Rattle.start_faults.specs.Touches.{address_wanted}
use Rattle.start_faults.proofs.touches.address_wanted.Goals as goal

pub returns : goal.returns
unfolding address_wanted
returns c = refl

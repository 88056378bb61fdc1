use Rattle.std.proofs.Common.{refl}
use Rattle.start_faults.specs.Names.{no_such_name}
use Rattle.start_faults.proofs.names.no_such_name.Goals as goal

pub returns : goal.returns
unfolding no_such_name
returns c = refl

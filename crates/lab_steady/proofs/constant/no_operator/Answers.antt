use Rattle.std.proofs.Common.{refl}
use Rattle.lab_steady.specs.Constant.{no_operator}
use Rattle.lab_steady.proofs.constant.no_operator.Goals as goal

pub returns : goal.returns
unfolding no_operator
returns c = refl

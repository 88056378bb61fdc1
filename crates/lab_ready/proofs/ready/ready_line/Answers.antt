use Rattle.std.proofs.Common.{refl}
use Rattle.lab_ready.specs.Answer.{ready_line}
use Rattle.lab_ready.proofs.ready.ready_line.Goals as goal

pub returns : goal.returns
unfolding ready_line
returns c = refl

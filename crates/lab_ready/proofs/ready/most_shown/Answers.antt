use Rattle.std.proofs.Common.{refl}
use Rattle.lab_ready.specs.Answer.{most_shown}
use Rattle.lab_ready.proofs.ready.most_shown.Goals as goal

pub returns : goal.returns
unfolding most_shown
returns c = refl

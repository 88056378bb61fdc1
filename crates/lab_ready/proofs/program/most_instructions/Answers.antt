use Rattle.std.proofs.Common.{refl}
use Rattle.lab_ready.specs.Answer.{most_instructions}
use Rattle.lab_ready.proofs.program.most_instructions.Goals as goal

pub returns : goal.returns
unfolding most_instructions
returns c = refl

use Rattle.source_meaning.proofs.Same.{same_commands}
use Rattle.source_meaning.proofs.laws.commands_mean.Goals as goal

pub returns : goal.returns
returns c = λ p q e. same_commands p q e

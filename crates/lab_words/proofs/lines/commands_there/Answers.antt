use Rattle.std.proofs.Common.{refl}
use Rattle.lab_words.specs.Refusal.{commands_there}
use Rattle.lab_words.proofs.lines.commands_there.Goals as goal

pub returns : goal.returns
unfolding commands_there
returns c = refl

use Rattle.std.proofs.Common.{refl}
use Rattle.lab_words.specs.Help.{commands_text}
use Rattle.lab_words.proofs.help.commands.Goals as goal

pub returns : goal.returns
unfolding commands_text
returns c = refl

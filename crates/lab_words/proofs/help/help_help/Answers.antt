use Rattle.std.proofs.Common.{refl}
use Rattle.lab_words.specs.Help.{help_help}
use Rattle.lab_words.proofs.help.help_help.Goals as goal

pub returns : goal.returns
unfolding help_help
returns c = refl

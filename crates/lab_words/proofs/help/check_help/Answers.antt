use Rattle.std.proofs.Common.{refl}
use Rattle.lab_words.specs.Help.{check_help}
use Rattle.lab_words.proofs.help.check_help.Goals as goal

pub returns : goal.returns
unfolding check_help
returns c = refl

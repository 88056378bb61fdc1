use Rattle.std.proofs.Common.{refl}
use Rattle.lab_words.specs.Help.{tune_help}
use Rattle.lab_words.proofs.help.tune_help.Goals as goal

pub returns : goal.returns
unfolding tune_help
returns c = refl

use Rattle.std.proofs.Common.{refl}
use Rattle.lab_words.specs.Help.{steady_help}
use Rattle.lab_words.proofs.help.steady_help.Goals as goal

pub returns : goal.returns
unfolding steady_help
returns c = refl

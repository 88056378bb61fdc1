use Rattle.std.proofs.Common.{refl}
use Rattle.lab_words.specs.Help.{leak_help}
use Rattle.lab_words.proofs.help.leak_help.Goals as goal

pub returns : goal.returns
unfolding leak_help
returns c = refl

use Rattle.std.proofs.Common.{refl}
use Rattle.lab_words.specs.Help.{version_help}
use Rattle.lab_words.proofs.help.version_help.Goals as goal

pub returns : goal.returns
unfolding version_help
returns c = refl

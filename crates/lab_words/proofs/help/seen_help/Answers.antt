use Rattle.std.proofs.Common.{refl}
use Rattle.lab_words.specs.Help.{seen_help}
use Rattle.lab_words.proofs.help.seen_help.Goals as goal

pub returns : goal.returns
unfolding seen_help
returns c = refl

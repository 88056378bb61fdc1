use Rattle.std.proofs.Common.{refl}
use Rattle.lab_words.specs.Help.{why_help}
use Rattle.lab_words.proofs.help.why_help.Goals as goal

pub returns : goal.returns
unfolding why_help
returns c = refl

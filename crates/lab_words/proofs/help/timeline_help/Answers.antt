use Rattle.std.proofs.Common.{refl}
use Rattle.lab_words.specs.Help.{timeline_help}
use Rattle.lab_words.proofs.help.timeline_help.Goals as goal

pub returns : goal.returns
unfolding timeline_help
returns c = refl

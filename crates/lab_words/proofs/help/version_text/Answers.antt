use Rattle.std.proofs.Common.{refl}
use Rattle.lab_words.specs.Help.{version_text}
use Rattle.lab_words.proofs.help.version_text.Goals as goal

pub returns : goal.returns
unfolding version_text
returns c = refl

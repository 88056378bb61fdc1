use Rattle.std.proofs.Common.{refl}
use Rattle.lab_words.specs.Help.{bound_help}
use Rattle.lab_words.proofs.help.bound_help.Goals as goal

pub returns : goal.returns
unfolding bound_help
returns c = refl

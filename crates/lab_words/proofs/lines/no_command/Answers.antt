use Rattle.std.proofs.Common.{refl}
use Rattle.lab_words.specs.Refusal.{no_command_line}
use Rattle.lab_words.proofs.lines.no_command.Goals as goal

pub returns : goal.returns
unfolding no_command_line
returns c = refl

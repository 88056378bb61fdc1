use Rattle.timing_types.proofs.Commands.{keep_commands}
use Rattle.timing_types.proofs.laws.labels_keep_commands.Goals as goal

pub returns : goal.returns
returns c = keep_commands

use Rattle.source_meaning.proofs.GoOn.{go_on}
use Rattle.source_meaning.proofs.laws.steps_go_on.Goals as goal

pub returns : goal.returns
returns c = go_on

use Rattle.flow_path.proofs.Earliest.{told_one}
use Rattle.flow_path.proofs.laws.one_is_told.Goals as goal

pub returns : goal.returns
returns c = told_one

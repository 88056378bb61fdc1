use Rattle.flow_path.proofs.OneList.{list_one}
use Rattle.flow_path.proofs.laws.one_list_is_told.Goals as goal

pub returns : goal.returns
returns c = list_one

use Rattle.flow_path.proofs.Costing.{less_le}
use Rattle.flow_path.proofs.cost.Cost.is_below.Goals as goal

pub returns-clause-below : goal.returns-clause-below
returns-clause-below c = λ e. less_le c.args.self c.args.other (c.is_less.ensures.less e)

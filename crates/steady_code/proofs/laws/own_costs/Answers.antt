use Rattle.steady_code.proofs.Costs.{own_costs}
use Rattle.steady_code.proofs.laws.own_costs.Goals as goal

pub returns : goal.returns
returns g c = own_costs g.E.MachineEnv.env

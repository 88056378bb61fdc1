use Rattle.steady_code.proofs.Costs.{all_fit}
use Rattle.steady_code.proofs.laws.costs_fit.Goals as goal

pub returns : goal.returns
returns c = all_fit

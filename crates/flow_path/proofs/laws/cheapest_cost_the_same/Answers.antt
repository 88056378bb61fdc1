use Rattle.flow_path.specs.Costs.{cost_of}
use Rattle.flow_path.proofs.Costing.{le_both}
use Rattle.flow_path.proofs.laws.cheapest_cost_the_same.Goals as goal

pub returns : goal.returns
returns c = λ p fault xs ys r n q m. le_both (cost_of xs) (cost_of ys) (n ys q) (m xs r)

use Rattle.gain_bound.proofs.Worth.{shown_is_worth_few}
use Rattle.gain_bound.proofs.laws.few_worth.Goals as goal

pub returns : goal.returns
returns g c = shown_is_worth_few _ _ _

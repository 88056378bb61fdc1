use Rattle.gain_bound.proofs.Own.{own_is_worth}
use Rattle.gain_bound.proofs.laws.lowered_few_worth_own.Goals as goal

pub returns : goal.returns
returns g c = λ q typed. own_is_worth _ _ _ _ _ _ _ _ _ (c.lowered_few_sequences_own.ensures q typed)

use Rattle.further_counts.proofs.ManyWorth.{many_worth}
use Rattle.further_counts.proofs.laws.lowered_few_worth_many.Goals as goal

pub returns : goal.returns
returns g c = λ order q typed. many_worth _ _ _ order _ _ _ _ _ (c.lowered_few_sequences_many.ensures.many order q typed)

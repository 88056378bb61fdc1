use Rattle.gain_bound.proofs.Programs.{lowered_worth}
use Rattle.gain_bound.proofs.laws.lowered_few_worth.Goals as goal

pub returns : goal.returns
returns g c = lowered_worth _ _ _ (λ order lattice. g.met.E.LawfulEnv.lawful order lattice)

use Rattle.history_bound.proofs.Held.{agrees}
use Rattle.history_bound.proofs.laws.agreement_is_what_is_held.Goals as goal

pub returns : goal.returns
returns c = agrees

use Rattle.parse_laws.proofs.Refused.{not_refused}
use Rattle.parse_laws.proofs.laws.spelled_is_not_refused.Goals as goal

pub returns : goal.returns
returns c = λ words h f r. not_refused words h f r

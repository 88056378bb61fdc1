use Rattle.parse_laws.proofs.Refused.{not_refused}
use Rattle.parse_laws.proofs.Meant.{program_spelled}
use Rattle.parse_laws.proofs.laws.program_is_not_refused.Goals as goal

pub returns : goal.returns
returns c = λ words s p f r. not_refused words (program_spelled words s p) f r

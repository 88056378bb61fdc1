use Rattle.parse_laws.proofs.Meant.{one_meaning}
use Rattle.parse_laws.proofs.laws.one_program.Goals as goal

pub returns : goal.returns
returns c = λ words s u p q. one_meaning words s u p q

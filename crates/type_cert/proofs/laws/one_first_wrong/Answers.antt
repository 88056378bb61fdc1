use Rattle.type_cert.proofs.FirstWrong.{one_wrong}
use Rattle.type_cert.proofs.laws.one_first_wrong.Goals as goal

pub returns : goal.returns
returns c = one_wrong

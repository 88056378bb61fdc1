use Rattle.leak_audit.proofs.Once.{answers_once}
use Rattle.leak_audit.proofs.laws.one_report.Goals as goal

pub returns : goal.returns
returns g c = λ p o t ss. answers_once _ _ p o t ss

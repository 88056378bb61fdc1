use Rattle.leak_bound.proofs.Digits.{has_digits}
use Rattle.leak_bound.proofs.laws.digits_are.Goals as goal

pub returns-clause-some : goal.returns-clause-some
returns-clause-some c = has_digits

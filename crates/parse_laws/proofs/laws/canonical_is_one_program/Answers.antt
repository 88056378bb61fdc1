use Rattle.parse_laws.proofs.Meant.{canonical_means}
use Rattle.parse_laws.proofs.laws.canonical_is_one_program.Goals as goal

pub returns : goal.returns
returns c = λ s v tokens a u p. canonical_means s v tokens a u p

use Rattle.parse_laws.proofs.OneRefusal as refusal
use Rattle.parse_laws.proofs.laws.one_refusal.Goals as goal

pub returns : goal.returns
returns c = λ words f g r s x y. refusal.one_refusal words f g r s x y

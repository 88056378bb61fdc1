use Rattle.label_infer.proofs.OneLeast as least
use Rattle.label_infer.proofs.laws.one_least.Goals as goal

pub returns : goal.returns
returns c = λ p order a b ha hb. least.one_least p order a b ha hb

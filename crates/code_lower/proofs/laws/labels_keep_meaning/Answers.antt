use Rattle.code_lower.proofs.Meaning.{keep_meaning}
use Rattle.code_lower.proofs.laws.labels_keep_meaning.Goals as goal

pub returns : goal.returns
returns c = keep_meaning

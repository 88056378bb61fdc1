use Rattle.parse_laws.proofs.WholeText.{reads_back}
use Rattle.parse_laws.proofs.laws.canonical_reads_back.Goals as goal

pub returns : goal.returns
returns c = λ s v. reads_back s v

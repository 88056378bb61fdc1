use Rattle.seen_line.proofs.Apart.{tells_apart}
use Rattle.seen_line.proofs.laws.fields_tell_apart.Goals as goal

pub returns : goal.returns
returns c = tells_apart

use Rattle.space_leak.proofs.Telling.{whole}
use Rattle.space_leak.proofs.laws.classes_are_whole.Goals as goal

pub returns : goal.returns
returns c = whole

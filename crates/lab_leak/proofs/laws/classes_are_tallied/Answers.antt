use Rattle.lab_leak.proofs.Tallied.{are_tallied}
use Rattle.lab_leak.proofs.laws.classes_are_tallied.Goals as goal

pub returns : goal.returns
returns c = are_tallied

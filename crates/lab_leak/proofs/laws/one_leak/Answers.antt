use Rattle.lab_leak.proofs.Single.{one_leak_in_lab}
use Rattle.lab_leak.proofs.laws.one_leak.Goals as goal

pub returns : goal.returns
returns c = one_leak_in_lab

use Rattle.label_code.proofs.OneRun.{has_one_run}
use Rattle.label_code.proofs.laws.one_run.Goals as goal

pub returns : goal.returns
returns g c = has_one_run g.E.MachineEnv.env

use Rattle.run_timeline.proofs.Told.{one_timeline_is}
use Rattle.run_timeline.proofs.laws.one_timeline.Goals as goal

pub returns : goal.returns
returns g c = λ code. one_timeline_is g.E.MachineEnv.env code

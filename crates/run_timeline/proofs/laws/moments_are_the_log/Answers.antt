use Rattle.run_timeline.proofs.Told.{tells_the_log}
use Rattle.run_timeline.proofs.laws.moments_are_the_log.Goals as goal

pub returns : goal.returns
returns g c = λ code. tells_the_log g.E.MachineEnv.env code

use Rattle.cycle_machine.proofs.Turns.{limit_is}
use Rattle.cycle_machine.proofs.laws.limit_is_run.Goals as goal

pub returns : goal.returns
returns g c = limit_is g.E.MachineEnv.env

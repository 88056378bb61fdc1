use Rattle.cycle_machine.proofs.Turns.{halt_is}
use Rattle.cycle_machine.proofs.laws.halt_is_run.Goals as goal

pub returns : goal.returns
returns g c = halt_is g.E.MachineEnv.env

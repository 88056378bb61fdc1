use Rattle.cycle_machine.proofs.Turns.{quiet_on}
use Rattle.cycle_machine.proofs.laws.quiet_goes_on.Goals as goal

pub returns : goal.returns
returns g c = quiet_on g.E.MachineEnv.env

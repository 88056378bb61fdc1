use Rattle.cycle_machine.proofs.Turns.{go_on}
use Rattle.cycle_machine.proofs.laws.turns_go_on.Goals as goal

pub returns : goal.returns
returns g c = go_on g.E.MachineEnv.env

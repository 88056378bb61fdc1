use Rattle.std.proofs.Common.{◌+◌, ◌-◌}
use Rattle.cycle_machine.specs.Took.{Stands}
use Rattle.cycle_machine.specs.Turned.{Quiet}
use Rattle.cycle_machine.proofs.run.run_stage.Given as goal

abbrev pub invariant-stage : goal.invariant-stage
invariant-stage g l =
    Stands g.E.MachineEnv.serves l.image l.state
    × Quiet g.E.MachineEnv.env l.image.instrs l.shown l.limit l.fn.state l.state

abbrev pub decreases-stage : goal.decreases-stage
decreases-stage g l = l.last + 1 - l.state.clock

use Rattle.std.proofs.Common.{◌-◌, ◌≤◌}
use Rattle.cycle_machine.specs.Took.{Stands}
use Rattle.cycle_machine.specs.Turned.{Quiet}
use Rattle.cycle_machine.proofs.run.run.Given as goal

abbrev pub invariant-run : goal.invariant-run
invariant-run g l =
    Stands g.E.MachineEnv.serves l.image l.state
    × Quiet g.E.MachineEnv.env l.image.instrs l.shown l.limit l.fn.state l.state
    × (l.state.clock ≤ l.last)

abbrev pub decreases-run : goal.decreases-run
decreases-run g l = l.limit - l.state.clock

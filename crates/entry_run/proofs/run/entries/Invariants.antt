use Rattle.std.proofs.Common.{◌+◌, ◌-◌}
use Rattle.label_code.specs.Machine.{start}
use Rattle.entry_run.proofs.Running.{Gone}
use Rattle.entry_run.proofs.run.entries.Given as goal

abbrev pub invariant-run : goal.invariant-run
invariant-run g l =
    Gone g.E.MachineEnv.env g.E.MachineEnv.serves l.image l.limit (start l.fn.memory.items l.fn.env) l.kept l.state

abbrev pub decreases-run : goal.decreases-run
decreases-run g l = l.limit + 1 - l.state.clock

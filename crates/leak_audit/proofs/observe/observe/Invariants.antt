use Rattle.std.proofs.Common.{◌-◌}
use Rattle.leak_audit.proofs.Running.{Observing}
use Rattle.leak_audit.proofs.observe.observe.Given as goal

abbrev pub invariant-run : goal.invariant-run
invariant-run g l = Observing g.E.MachineEnv.env l.limit l.p l.observer.label.number l.observer.relevant.now l.observer.room l.fn.m l.m l.tally

abbrev pub decreases-run : goal.decreases-run
decreases-run g l = l.limit - l.m.state.clock

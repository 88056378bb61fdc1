use Rattle.std.proofs.Common.{◌≡◌, ◌≤◌, ◌-◌}
use Rattle.cycle_machine.specs.Rest.{StandsAfter}
use Rattle.event_print.specs.Pieces.{SendsLines}
use Rattle.event_print.proofs.Printed.{Printed}
use Rattle.event_print.proofs.print.print_run.Given as goal

abbrev pub invariant-run : goal.invariant-run
invariant-run g l = record {
  printed : Printed g.E.MachineEnv.env l.fn.limit l.fn.p.labelled l.fn.observer l.fn.m l.m (g.W.Sink.taken l.fn.out) (g.W.Sink.taken l.out);
  sent : SendsLines l.fn.p.labelled.program.declarations (g.W.Sink.log l.fn.out) (g.W.Sink.log l.out);
  stands : StandsAfter g.E.MachineEnv.env l.fn.limit l.fn.m l.m;
  later : g.W.Sink.faults l.fn.out ≤ g.W.Sink.faults l.out;
  labelled : l.labelled ≡ l.fn.p.labelled;
}

abbrev pub decreases-run : goal.decreases-run
decreases-run g l = l.limit - l.m.state.clock

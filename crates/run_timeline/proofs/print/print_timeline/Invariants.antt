use Rattle.std.proofs.Common.{◌≡◌, ◌≤◌, ◌-◌}
use Rattle.cycle_machine.specs.Took.{Stands}
use Rattle.run_timeline.proofs.Printing.{Printing}
use Rattle.run_timeline.proofs.print.print_timeline.Given as goal

abbrev pub invariant-run : goal.invariant-run
invariant-run g l = record {
  printing :
      Printing g.E.MachineEnv.env l.image.instrs l.limit (record { memory = l.fn.state.memory.items; env = l.fn.state.env })
      l.fn.p l.fn.observer l.state (g.W.Sink.taken l.fn.out) (g.W.Sink.taken l.out) l.fn.listing.tallies.items l.listing.tallies.items;
  stands : Stands g.E.MachineEnv.serves l.image l.state;
  places : l.listing.places ≡ l.fn.listing.places;
  later : g.W.Sink.faults l.fn.out ≤ g.W.Sink.faults l.out;
}

abbrev pub decreases-run : goal.decreases-run
decreases-run g l = l.limit - l.state.clock

use Rattle.std.proofs.Common.{◌≤◌}
use Rattle.run_timeline.proofs.Summing.{Summed}
use Rattle.run_timeline.proofs.summary.print_summary.Given as goal

abbrev pub invariant-loop-mark : goal.invariant-loop-mark
invariant-loop-mark g l = record {
  summed : Summed l.listing.places.items l.listing.tallies.items (g.W.Sink.taken l.fn.out) (g.W.Sink.taken l.out) l.mark;
  later : g.W.Sink.faults l.fn.out ≤ g.W.Sink.faults l.out;
}

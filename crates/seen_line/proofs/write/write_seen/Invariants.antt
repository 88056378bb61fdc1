use Rattle.std.proofs.Common.{◌≡◌, ◌≤◌, ◌-◌}
use Rattle.seen_line.proofs.Fields.{Fields}
use Rattle.seen_line.proofs.write.write_seen.Given as goal

abbrev pub invariant-run : goal.invariant-run
invariant-run g l = record {
  fields : Fields g.E.MachineEnv.env l.fn.limit l.fn.p l.fn.observer l.fn.m l.m l.none (g.W.Sink.taken l.fn.out) (g.W.Sink.taken l.out);
  later : g.W.Sink.faults l.fn.out ≤ g.W.Sink.faults l.out;
}

abbrev pub decreases-run : goal.decreases-run
decreases-run g l = l.limit - l.m.state.clock

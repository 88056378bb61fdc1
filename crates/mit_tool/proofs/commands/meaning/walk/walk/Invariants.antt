use Rattle.std.specs.Prelude.{◌≤◌, ◌-◌}
use Rattle.mit_tool.specs.Logged.{SentLines}
use Rattle.mit_tool.proofs.WalkLemmas.{Walking}
use Rattle.mit_tool.proofs.commands.meaning.walk.walk.Given as goal

abbrev pub invariant-steps : goal.invariant-steps
invariant-steps g l = record {
  walking : Walking l.fn.p l.fn.memory l.fn.steps l.taken l.walker (g.W.Sink.taken l.fn.out) (g.W.Sink.taken l.out);
  sent : SentLines (g.W.Sink.log l.fn.out) (g.W.Sink.log l.out);
  later : g.W.Sink.faults l.fn.out ≤ g.W.Sink.faults l.out;
}

abbrev pub decreases-steps : goal.decreases-steps
decreases-steps g l = l.fn.steps - l.taken

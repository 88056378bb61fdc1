use Rattle.run_entries.specs.Views.{numbers_of}
use Rattle.run_entries.proofs.Going.{Replaying}
use Rattle.run_entries.proofs.replay.Replay.of.Given as goal

abbrev pub invariant-loop-entry : goal.invariant-loop-entry
invariant-loop-entry l = Replaying (numbers_of l.numbers) l.marked l.entries l.limit l.entry-index l.run

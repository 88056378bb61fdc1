use Rattle.level_counts.proofs.Taking.{Taken}
use Rattle.level_counts.proofs.levels.take_firsts.Given as goal

abbrev pub invariant-loop-l : goal.invariant-loop-l
invariant-loop-l l = Taken l.fn.levels.items l.run l.l l.levels.items

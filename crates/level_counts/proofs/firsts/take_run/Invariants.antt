use Rattle.level_counts.specs.Listed.{lists}
use Rattle.level_counts.proofs.ListLemmas.{TakenRuns}
use Rattle.level_counts.proofs.firsts.take_run.Given as goal

-- the levels so far
abbrev pub invariant-loop-l : goal.invariant-loop-l
invariant-loop-l l = TakenRuns (lists l.fn.listed.items) (lists l.run) l.l (lists l.listed.items)

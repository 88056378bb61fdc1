use Rattle.std.proofs.Common.{◌≡◌, ◌++◌, drop}
use Rattle.space_starts.specs.Space.{lists, counts}
use Rattle.space_starts.proofs.space.counts.Given as goal

-- the counts of the first variables stand
abbrev pub invariant-loop-intervals : goal.invariant-loop-intervals
invariant-loop-intervals l = l.counts.items ++ counts (lists (drop l.intervals-index l.memory)) ≡ counts (lists l.memory)

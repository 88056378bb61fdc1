use Rattle.space_starts.proofs.Meeting.{Clear}
use Rattle.space_starts.proofs.apart.neighbours_apart.Given as goal

-- the neighbours before a place do not meet
abbrev pub invariant-loop-k : goal.invariant-loop-k
invariant-loop-k l = Clear l.sorted l.k

use Rattle.space_starts.specs.Space.{lists}
use Rattle.space_starts.proofs.Choosing.{Choosing}
use Rattle.space_starts.proofs.space.chosen.Given as goal

-- the values of the first variables are taken
abbrev pub invariant-loop-i : goal.invariant-loop-i
invariant-loop-i l = Choosing (lists l.memory) l.choice l.i l.values.items

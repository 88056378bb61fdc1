use Rattle.level_counts.proofs.ListLemmas.{TakenPlaces}
use Rattle.level_counts.proofs.firsts.take_places.Given as goal

-- the places so far
abbrev pub invariant-loop-i : goal.invariant-loop-i
invariant-loop-i l = TakenPlaces l.fn.places.items l.run l.i l.places.items

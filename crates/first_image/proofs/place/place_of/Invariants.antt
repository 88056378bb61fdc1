use Rattle.first_image.proofs.Placing.{NoneBefore}
use Rattle.first_image.proofs.place.place_of.Given as goal

abbrev pub invariant-loop-next : goal.invariant-loop-next
invariant-loop-next l = NoneBefore l.image.instrs l.mark l.next

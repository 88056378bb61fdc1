use Rattle.std.proofs.Common.{◌≡◌, drop}
use Rattle.flow_print.specs.Places.{next_place}
use Rattle.flow_print.proofs.places.next_among.Given as goal

abbrev pub invariant-loop-t : goal.invariant-loop-t
invariant-loop-t l = next_place l.text l.tokens l.q l.name ≡ next_place l.text (drop l.t-index l.tokens) l.q l.name

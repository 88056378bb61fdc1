use Rattle.std.proofs.Common.{◌≡◌, drop}
use Rattle.flow_print.specs.Places.{kind_at}
use Rattle.flow_print.proofs.places.kind_among.Given as goal

abbrev pub invariant-loop-t : goal.invariant-loop-t
invariant-loop-t l = kind_at l.tokens l.q ≡ kind_at (drop l.t-index l.tokens) l.q

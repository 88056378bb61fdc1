use Rattle.std.proofs.Common.{◌≡◌, drop}
use Rattle.flow_print.specs.Places.{spelled_at}
use Rattle.flow_print.proofs.places.spelled_among.Given as goal

abbrev pub invariant-loop-t : goal.invariant-loop-t
invariant-loop-t l = spelled_at l.text l.tokens l.q ≡ spelled_at l.text (drop l.t-index l.tokens) l.q

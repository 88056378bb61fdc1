use Rattle.std.proofs.Common.{◌^◌}
use Rattle.first_front.proofs.Cheapest.{Found}
use Rattle.first_front.proofs.enough.enough.Given as goal

abbrev pub invariant-loop-interval : goal.invariant-loop-interval
invariant-loop-interval l = Found l.intervals (2 ^ l.bits) l.interval-index l.found

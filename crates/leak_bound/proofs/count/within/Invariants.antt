use Rattle.std.proofs.Common.{◌≡◌, ◌<◌, ◌^◌}
use Rattle.leak_bound.proofs.count.within.Given as goal

-- the power so far, which is below the count
abbrev pub invariant-loop : goal.invariant-loop
invariant-loop l = (l.power ≡ l.base ^ l.counter) × (l.power < l.count)

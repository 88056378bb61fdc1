use Rattle.std.proofs.Common.{◌≡◌, ◌≤◌, ◌+◌, ◌^◌, drop}
use Rattle.space_starts.specs.Space.{many}
use Rattle.space_starts.proofs.space.many.Given as goal

-- those so far and those of the rest
abbrev pub invariant-loop-interval : goal.invariant-loop-interval
invariant-loop-interval l = record {
  few : l.many ≤ 2 ^ 40;
  rest : many l.intervals ≡ l.many + many (drop l.interval-index l.intervals);
}

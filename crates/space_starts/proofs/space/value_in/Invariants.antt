use Rattle.std.proofs.Common.{◌≡◌, ◌<◌, drop}
use Rattle.space_starts.specs.Space.{many, value_in}
use Rattle.space_starts.proofs.space.value_in.Given as goal

-- it is in the intervals that are left, with a number among them
abbrev pub invariant-loop-interval : goal.invariant-loop-interval
invariant-loop-interval l = record {
  inside : l.left < many (drop l.interval-index l.intervals);
  same : value_in l.intervals l.number ≡ value_in (drop l.interval-index l.intervals) l.left;
}

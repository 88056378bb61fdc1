use Rattle.std.proofs.Common.{◌+◌, ◌-◌, ◌^◌, ◌≤◌}
use Rattle.first_front.specs.Intervals.{Covers}
use Rattle.first_front.proofs.walk.walk.Given as goal

abbrev pub invariant-loop-first : goal.invariant-loop-first
invariant-loop-first l = record {
  covers : Covers l.varied l.classes 1 l.intervals.items l.first;
  some : 1 ≤ l.first;
  within : l.first ≤ 2 ^ 40 + 1;
}

abbrev pub decreases-loop-first : goal.decreases-loop-first
decreases-loop-first l = 2 ^ 40 + 1 - l.first

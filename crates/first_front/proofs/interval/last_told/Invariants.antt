use Rattle.std.proofs.Common.{◌-◌, ◌≤◌, ◌^◌}
use Rattle.first_front.specs.Told.{latest_at}
use Rattle.first_front.proofs.Constant.{Halved}
use Rattle.first_front.proofs.interval.last_told.Given as goal

abbrev pub invariant-loop-low : goal.invariant-loop-low
invariant-loop-low l = record {
  halved : Halved l.varied l.classes l.first l.low l.high;
  short : latest_at l.varied l.low l.classes ≤ 2 ^ 64 - 1;
}

abbrev pub decreases-loop-low : goal.decreases-loop-low
decreases-loop-low l = l.high - l.low

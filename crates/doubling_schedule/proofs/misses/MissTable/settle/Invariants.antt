use Rattle.std.proofs.Common.{◌≤◌, ◌-◌}
use Rattle.std.specs.Prelude.{slice_index}
use Rattle.doubling_schedule.proofs.SettleLemmas.{Missed}
use Rattle.doubling_schedule.proofs.misses.MissTable.settle.Given as goal

-- the count is at most 64, and each one before it was not enough
abbrev pub invariant-loop-count : goal.invariant-loop-count
invariant-loop-count l = record {
  few : l.count ≤ 64;
  missed : Missed l.n l.elapsed (slice_index l.self-inside.counts l.level) l.count;
}

abbrev pub decreases-loop-count : goal.decreases-loop-count
decreases-loop-count l = 64 - l.count

use Rattle.std.proofs.Common.{ℕ, ◌+◌, ◌-◌, ◌≤◌, length, drop}
use Rattle.flow_path.specs.Ranks.{IsPlace}
use Rattle.flow_path.proofs.rank.place.Given as goal

abbrev pub invariant-loop-i : goal.invariant-loop-i
invariant-loop-i l = record {
  within : l.i ≤ length l.told;
  place : (k : ℕ) → IsPlace l.lattice l.new (drop l.i l.told) k → IsPlace l.lattice l.new l.told (l.i + k);
}

abbrev pub decreases-loop-i : goal.decreases-loop-i
decreases-loop-i l = length l.told - l.i

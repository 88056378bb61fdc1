use Rattle.std.proofs.Common.{◌≡◌}
use Rattle.leak_bound.specs.Rising.{sharp}
use Rattle.sharp_count.specs.Count.{fitting}
use Rattle.sharp_count.specs.Levels.{counts_of, values_of}
use Rattle.sharp_count.proofs.count.sharp_count.Given as goal

-- the product over the levels so far
abbrev pub invariant-loop-level : goal.invariant-loop-level
invariant-loop-level l = l.count ≡ fitting (sharp (values_of l.runs l.t l.levels) l.level-index (counts_of l.levels))

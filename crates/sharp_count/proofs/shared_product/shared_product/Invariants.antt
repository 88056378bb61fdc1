use Rattle.std.proofs.Common.{◌≡◌}
use Rattle.sharp_count.specs.Count.{fitting}
use Rattle.sharp_count.specs.Levels.{counts_of, firsts_of}
use Rattle.sharp_count.specs.Shared.{shared}
use Rattle.sharp_count.proofs.shared_product.shared_product.Given as goal

-- the product over the levels so far
abbrev pub invariant-loop-level : goal.invariant-loop-level
invariant-loop-level l = l.count ≡ fitting (shared l.t (firsts_of l.levels) l.level-index (counts_of l.levels))

use Rattle.std.proofs.Common.{◌≡◌, ℕ, ◌<◌}
use Rattle.part_cache.specs.Rows.{tags_at}
use Rattle.part_cache.proofs.cache.PartCache.same_sets.Given as goal

abbrev pub invariant-loop-set : goal.invariant-loop-set
invariant-loop-set l = (k : ℕ) → k < l.set → tags_at l.self l.label.number k ≡ tags_at l.other l.label.number k

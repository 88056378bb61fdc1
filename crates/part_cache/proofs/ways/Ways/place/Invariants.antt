use Rattle.std.proofs.Common.{◌≡◌, ℕ, ◌<◌, get_or}
use Rattle.part_cache.proofs.ways.Ways.place.Given as goal

abbrev pub invariant-loop-way : goal.invariant-loop-way
invariant-loop-way l = (k : ℕ) → k < l.way → get_or l.self.tags k 0 ≡ l.tag → ⊥

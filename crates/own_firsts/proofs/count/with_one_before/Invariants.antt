use Rattle.std.proofs.Common.{◌≡◌, ◌+◌, ℕ, length}
use Rattle.own_firsts.specs.Rows.{IsRow}
use Rattle.own_firsts.proofs.Rows.{FromPlace}
use Rattle.own_firsts.proofs.count.with_one_before.Given as goal

-- the places from the one on that was made last
abbrev pub invariant-loop-miss_count : goal.invariant-loop-miss_count
invariant-loop-miss_count l =
    (length l.next ≡ 65)
    × ((limits : ℕ → ℕ) (i k : ℕ) → limits i ≡ l.limit → IsRow limits l.values (i + 1) k l.row → FromPlace limits l.values i k l.miss_count l.next)

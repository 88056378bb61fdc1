-- The count by shared time: level by level, how many lists of miss counts fit into T together.
use Rattle.std.specs.Prelude.{ℕ, zero, suc, ◌≡◌, ◌*◌, ◌/◌, ◌≤◌, max, leb, cond, List, length}
use Rattle.sharp_count.specs.declared.count.LevelRuns.{LevelRuns}
use Rattle.leak_bound.specs.Rising.{rising, sharp}
use Rattle.sharp_count.specs.Levels.{miss_counts, counts_of, firsts_of}
use Rattle.sharp_count.specs.Shares.{shares}
use Rattle.sharp_count.specs.Ways.{AreWays}

-- Of one level: how many lists of k miss counts never fall and have cycles that add up to at most T, where e is the
-- first prediction. Of more than 64 mitigations: how many never fall.
abbrev pub shared_by : ℕ → ℕ → ℕ → ℕ
shared_by t e k = cond (leb k 64) (shares (miss_counts t e) k (t / max e 1) 0) (rising (miss_counts t e) k)

-- the product of these numbers over the levels below n
abbrev pub shared : ℕ → (ℕ → ℕ) → ℕ → (ℕ → ℕ) → ℕ
shared t firsts zero counts = 1
shared t firsts (suc l) counts = shared_by t (firsts l) (counts l) * shared t firsts l counts

-- of the levels of which this is told
abbrev pub shared_of : ℕ → List LevelRuns → ℕ
shared_of t levels = shared t (firsts_of levels) (length levels) (counts_of levels)

-- The ways in which mitigations can end whose cycles, of all levels together, add up to at most T are no more than that; and
-- it is at most the sharp count. Where one level alone has mitigations, and no more than 64, it is the number of these ways.
abbrev pub SharedIsEnough : Type 0
SharedIsEnough =
    (t : ℕ) (firsts : ℕ → ℕ) (n : ℕ) (counts : ℕ → ℕ) (ways : List (List (List ℕ))) → AreWays t firsts n counts ways →
    (length ways ≤ shared t firsts n counts)
    × (shared t firsts n counts ≤ sharp (λ l. miss_counts t (firsts l)) n counts)
    × ((l : ℕ) → counts l ≤ 64 → ((j : ℕ) → (j ≡ l → ⊥) → counts j ≡ 0) → length ways ≡ shared t firsts n counts)

-- The count by own first predictions: level by level, how many lists of miss counts there are.
use Rattle.std.specs.Prelude.{◌≡◌, ℕ, zero, suc, ◌+◌, ◌*◌, ◌<◌, ◌≤◌, List, [], length, ltb, cond, slice_index_or}
use Rattle.leak_bound.specs.Digits.{digits}
use Rattle.leak_bound.specs.Rising.{sharp}
use Rattle.sharp_count.specs.Levels.{miss_counts}
use Rattle.own_firsts.specs.Ways.{AreOwnWays}

-- Of the lists of k numbers that never fall, of c numbers from m on: how many there are in which each number is below what
-- `limits` tells of its place, from place i on. Those that begin with m come first, and then those that begin above it.
unfoldable pub lists_below : (ℕ → ℕ) → ℕ → ℕ → ℕ → ℕ → ℕ
lists_below limits m c i zero = 1
lists_below limits m zero i (suc k) = 0
lists_below limits m (suc c) i (suc k) =
    cond (ltb m (limits i)) (lists_below limits m (suc c) (i + 1) k) 0 + lists_below limits (suc m) c i (suc k)

-- Of one level with k mitigations: the one at place i can end by T at as many miss counts as T div its first prediction has
-- binary digits.
abbrev pub own_by : ℕ → (ℕ → ℕ) → ℕ → ℕ
own_by t firsts k = lists_below (λ i. miss_counts t (firsts i)) 0 (digits t) 0 k

-- the product of these numbers over the levels below n
abbrev pub own : ℕ → (ℕ → ℕ → ℕ) → ℕ → (ℕ → ℕ) → ℕ
own t firsts zero counts = 1
own t firsts (suc l) counts = own_by t (firsts l) (counts l) * own t firsts l counts

-- where first predictions are listed, a list for each level: those of the level with a number
abbrev pub firsts_at : List (List ℕ) → ℕ → List ℕ
firsts_at listed l = slice_index_or listed l []

-- how many there are, and the one at a place, from 0; 0 where there is none
abbrev pub many_at : List (List ℕ) → ℕ → ℕ
many_at listed l = length (firsts_at listed l)

abbrev pub first_at : List (List ℕ) → ℕ → ℕ → ℕ
first_at listed l i = slice_index_or (firsts_at listed l) i 0

-- the product for these levels
abbrev pub own_of : ℕ → List (List ℕ) → ℕ
own_of t listed = own t (first_at listed) (length listed) (many_at listed)

-- There are no more ways than that. It is at most the sharp count, with whatever first predictions are the least of each level.
abbrev pub OwnIsEnough : Type 0
OwnIsEnough =
    (t : ℕ) (firsts : ℕ → ℕ → ℕ) (n : ℕ) (counts : ℕ → ℕ) →
    ((ways : List (List (List ℕ))) → AreOwnWays t firsts n counts ways → length ways ≤ own t firsts n counts)
    × ((least : ℕ → ℕ) → ((l i : ℕ) → i < counts l → least l ≤ firsts l i) → own t firsts n counts ≤ sharp (λ l. miss_counts t (least l)) n counts)

-- Two mitigations of one level, with first predictions 2 and 16, have at most 10 ways to end by cycle 200; by the least first
-- prediction alone there would be 28.
abbrev pub OwnExample : Type 0
OwnExample = (own_by 200 (λ i. cond (ltb i 1) 2 16) 2 ≡ 10) × (sharp (λ l. miss_counts 200 2) 1 (λ l. 2) ≡ 28)

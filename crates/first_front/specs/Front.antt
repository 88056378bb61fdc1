-- The choices that no other one betters.
use Rattle.std.specs.Prelude.{◌≡◌, ◌≤◌, ◌+◌, ◌-◌, ◌^◌, ℕ, List, [], ◌∷◌, map}
use Rattle.std.specs.List.{All, IsAmong}
use Rattle.first_front.specs.declared.class.Class.{Class}
use Rattle.first_front.specs.declared.class.Varied.{Varied}
use Rattle.first_front.specs.declared.interval.Interval.{Interval}
use Rattle.first_front.specs.Told.{things_at, cost_at, latest_at}
use Rattle.first_front.specs.Intervals.{IsFirst, IsInterval, IsTooLong}

-- a choice with which every run ends by the limit
abbrev pub Halts : Varied → List Class → ℕ → ℕ → Type 0
Halts v cs limit n = IsFirst n × (latest_at v n cs ≤ limit)

-- m tells at most as much as n, and costs at most as much
abbrev pub IsAsGood : Varied → List Class → ℕ → ℕ → Type 0
IsAsGood v cs m n = (things_at v m cs ≤ things_at v n cs) × (cost_at v m cs ≤ cost_at v n cs)

-- with n every run ends by the limit; and whichever other choice of which that holds tells at most as much and costs at
-- most as much, it tells and costs the same, and is greater
pub record IsBest (v : Varied) (cs : List Class) (limit n : ℕ) : Type 0 where
  pub halts : Halts v cs limit n
  pub best : (m : ℕ) → Halts v cs limit m → IsAsGood v cs m n → IsAsGood v cs n m × (n ≤ m)

-- one of these intervals begins there
abbrev pub BeginsAt : List Interval → ℕ → Type 0
BeginsAt is n = IsAmong (map (λ i. i.first) is) n

-- each begins after the one before, and the first of them no earlier than there
abbrev pub AscendFrom : ℕ → List Interval → Type 0
AscendFrom least [] = Unit {0}
AscendFrom least (i ∷ is) = (least ≤ i.first) × AscendFrom (i.first + 1) is

-- with no first prediction does a run end after cycle 2^64 - 1
abbrev pub NoneIsTooLong : Varied → List Class → Type 0
NoneIsTooLong v cs = (n : ℕ) → IsFirst n → latest_at v n cs ≤ 2 ^ 64 - 1

-- the intervals that begin with the best choices, in ascending order: each of them, and for each choice with which every
-- run ends by the limit one that tells at most as much and costs at most as much
pub record IsFront (v : Varied) (cs : List Class) (limit : ℕ) (is : List Interval) : Type 0 where
  pub short : NoneIsTooLong v cs
  pub ascends : AscendFrom 1 is
  pub intervals : All (IsInterval v cs) is
  pub best : All (λ i. IsBest v cs limit i.first) is
  pub each : (n : ℕ) → IsBest v cs limit n → BeginsAt is n
  pub enough : (n : ℕ) → Halts v cs limit n → (m : ℕ) × BeginsAt is m × IsAsGood v cs m n

-- So there is one front, and none where a run is too long.
abbrev pub OneFront : Type 0
OneFront =
    (v : Varied) (cs : List Class) (limit : ℕ) (is : List Interval) → IsFront v cs limit is →
    ((js : List Interval) → IsFront v cs limit js → is ≡ js) × (IsTooLong v cs → ⊥)

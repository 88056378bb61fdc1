-- First predictions on which no miss count changes.
use Rattle.std.specs.Prelude.{◌≡◌, ◌≢◌, ◌≤◌, ◌<◌, ◌-◌, ◌+◌, ◌^◌, ℕ, List, [], ◌∷◌}
use Rattle.first_front.specs.declared.class.Class.{Class}
use Rattle.first_front.specs.declared.class.Varied.{Varied}
use Rattle.first_front.specs.declared.interval.Interval.{Interval}
use Rattle.first_front.specs.Told.{tells, things_at, cost_at, latest_at}

-- a first prediction that may be written
abbrev pub IsFirst : ℕ → Type 0
IsFirst n = (1 ≤ n) × (n ≤ 2 ^ 40)

-- with one of them a run ends after cycle 2^64 - 1
abbrev pub IsTooLong : Varied → List Class → Type 0
IsTooLong v cs = (n : ℕ) × IsFirst n × (2 ^ 64 - 1 < latest_at v n cs)

-- from the first on exactly those up to the last have all miss counts in common with it
pub record IsLast (v : Varied) (cs : List Class) (first last : ℕ) : Type 0 where
  pub from : first ≤ last
  pub within : last ≤ 2 ^ 40
  pub same : (n : ℕ) → first ≤ n → n ≤ last → tells v n cs ≡ tells v first cs
  pub more : (n : ℕ) → last < n → n ≤ 2 ^ 40 → tells v n cs ≢ tells v first cs

-- all first predictions from the least on that have all miss counts in common with it, and what holds of the least: no
-- other one of them costs less, or has its last run end earlier; and with none of them a run ends after cycle 2^64 - 1
pub record IsInterval (v : Varied) (cs : List Class) (i : Interval) : Type 0 where
  pub some : 1 ≤ i.first
  pub last : IsLast v cs i.first i.last
  pub things : i.things ≡ things_at v i.first cs
  pub cost : i.cost ≡ cost_at v i.first cs
  pub latest : i.latest ≡ latest_at v i.first cs
  pub cheapest : (n : ℕ) → i.first ≤ n → n ≤ i.last → (cost_at v i.first cs ≤ cost_at v n cs) × (latest_at v i.first cs ≤ latest_at v n cs)
  pub short : (n : ℕ) → i.first ≤ n → n ≤ i.last → latest_at v n cs ≤ 2 ^ 64 - 1

-- intervals one after another, from one first prediction to before another one, with none left out
abbrev pub Covers : Varied → List Class → ℕ → List Interval → ℕ → Type 0
Covers v cs from [] to = from ≡ to
Covers v cs from (i ∷ is) to = (i.first ≡ from) × IsInterval v cs i × Covers v cs (i.last + 1) is to

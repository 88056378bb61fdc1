-- A part of the start is asked for, and may be named in several tries.
use Rattle.std.specs.Prelude.{ℕ, ◌*◌, ◌≤◌, List, length, Bool, cond, map}
use Rattle.std.specs.List.{list_any}
use Rattle.leak_bound.specs.Records.{distinct_count, Tests}
use Rattle.gain_bound.specs.Gain.{gained, gain_by}

-- whether one of these tries is the part of the start that is asked for
abbrev pub is_named : {X P : Type 0} → (X → P) → (P → P → Bool) → List P → X → Bool
is_named part alike tries x = list_any (λ p. alike p (part x)) tries

-- the gain of tries: 1 where they name it, and else 0
abbrev pub named : {X P : Type 0} → (X → P) → (P → P → Bool) → List P → X → ℕ
named part alike tries x = cond (is_named part alike tries x) 1 0

-- Whatever is taken for the part: if no k tries name it for starts of more weight than most, then no k tries that are chosen
-- by the view name it for more than n times as much.
abbrev pub TriesNameFew : Type 0 → Type 0 → Type 0 → Type 0
TriesNameFew X V P =
    (see : X → V) (same : V → V → Bool) → Tests same → (xs : List X) (n : ℕ) → distinct_count same (map see xs) ≤ n →
    (part : X → P) (alike : P → P → Bool) (weight : X → ℕ) (k most : ℕ) →
    ((tries : List P) → length tries ≤ k → gained weight (named part alike) xs tries ≤ most) →
    (choose : V → List P) → ((v : V) → length (choose v) ≤ k) → gain_by see choose weight (named part alike) xs ≤ n * most

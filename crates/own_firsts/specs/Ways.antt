-- The ways in which mitigations can end whose cycles add up, each with its own first prediction.
use Rattle.std.specs.Prelude.{ℕ, zero, suc, ◌+◌, ◌*◌, ◌^◌, ◌≤◌, max, List, [], ◌∷◌}
use Rattle.leak_bound.specs.Digits.{digits}
use Rattle.leak_bound.specs.Records.{Each}
use Rattle.sharp_count.specs.Lists.{IsAmong, AllDiffer}
use Rattle.sharp_count.specs.Ways.{IsChoice}

-- the sum of e * 2 ^ m over these miss counts, where `firsts` tells e by the place, from place i on, and e is at least 1
abbrev pub cycles_from : (ℕ → ℕ) → ℕ → List ℕ → ℕ
cycles_from firsts i [] = 0
cycles_from firsts i (m ∷ ms) = 2 ^ m * max (firsts i) 1 + cycles_from firsts (i + 1) ms

-- over all levels below n, each with its first predictions
abbrev pub cycles_by : (ℕ → ℕ → ℕ) → ℕ → List (List ℕ) → ℕ
cycles_by firsts zero c = 0
cycles_by firsts (suc l) [] = 0
cycles_by firsts (suc l) (ms ∷ c) = cycles_from (firsts l) 0 ms + cycles_by firsts l c

-- Each of these is, for each level, as many miss counts as are counted, which never fall, and all cycles add up to at most T.
abbrev pub IsOwnWay : ℕ → (ℕ → ℕ → ℕ) → ℕ → (ℕ → ℕ) → List (List ℕ) → Type 0
IsOwnWay t firsts n counts c = IsChoice (λ l. digits t) n counts c × (cycles_by firsts n c ≤ t)

-- all of them
pub record AreOwnWays (t : ℕ) (firsts : ℕ → ℕ → ℕ) (n : ℕ) (counts : ℕ → ℕ) (all : List (List (List ℕ))) : Type 0 where
  pub each : Each (IsOwnWay t firsts n counts) all
  pub whole : (c : List (List ℕ)) → IsOwnWay t firsts n counts c → IsAmong c all
  pub differ : AllDiffer all

-- there is a list of them
abbrev pub OwnWaysAre : Type 0
OwnWaysAre = (t : ℕ) (firsts : ℕ → ℕ → ℕ) (n : ℕ) (counts : ℕ → ℕ) → (all : List (List (List ℕ))) × AreOwnWays t firsts n counts all

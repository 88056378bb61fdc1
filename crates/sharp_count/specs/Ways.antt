-- The ways in which mitigations can end whose cycles add up.
use Rattle.std.specs.Prelude.{ℕ, zero, suc, ◌≡◌, ◌+◌, ◌*◌, ◌^◌, ◌≤◌, max, List, [], ◌∷◌, length}
use Rattle.leak_bound.specs.Records.{Each}
use Rattle.leak_bound.specs.Rising.{sharp}
use Rattle.sharp_count.specs.Levels.{miss_counts}
use Rattle.sharp_count.specs.Lists.{NeverFalling, IsAmong, AllDiffer}

-- for each level below n, the last first, as many miss counts as are counted, below its number of values, that never fall
abbrev pub IsChoice : (ℕ → ℕ) → ℕ → (ℕ → ℕ) → List (List ℕ) → Type 0
IsChoice values zero counts c = c ≡ []
IsChoice values (suc l) counts [] = ⊥
IsChoice values (suc l) counts (ms ∷ c) = NeverFalling 0 (values l) (counts l) ms × IsChoice values l counts c

-- the sum of e * 2 ^ m over these miss counts, where e is at least 1
abbrev pub cycles_of : ℕ → List ℕ → ℕ
cycles_of e [] = 0
cycles_of e (m ∷ ms) = 2 ^ m * max e 1 + cycles_of e ms

-- over all levels below n, each with its first prediction
abbrev pub cycles_in : (ℕ → ℕ) → ℕ → List (List ℕ) → ℕ
cycles_in firsts zero c = 0
cycles_in firsts (suc l) [] = 0
cycles_in firsts (suc l) (ms ∷ c) = cycles_of (firsts l) ms + cycles_in firsts l c

-- all choices whose cycles add up to at most T
pub record AreWays (t : ℕ) (firsts : ℕ → ℕ) (n : ℕ) (counts : ℕ → ℕ) (all : List (List (List ℕ))) : Type 0 where
  pub each : Each (λ c. IsChoice (λ l. miss_counts t (firsts l)) n counts c × (cycles_in firsts n c ≤ t)) all
  pub whole : (c : List (List ℕ)) → IsChoice (λ l. miss_counts t (firsts l)) n counts c → cycles_in firsts n c ≤ t → IsAmong c all
  pub differ : AllDiffer all

-- there are no more of them than the sharp count tells
abbrev pub WaysAreFew : Type 0
WaysAreFew =
    (t : ℕ) (firsts : ℕ → ℕ) (n : ℕ) (counts : ℕ → ℕ) →
    (all : List (List (List ℕ))) × AreWays t firsts n counts all × (length all ≤ sharp (λ l. miss_counts t (firsts l)) n counts)

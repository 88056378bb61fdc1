-- The fetches that have failed, by their names.
use Rattle.std.specs.Prelude.{◌≡◌, ◌⊎◌, ℕ, ◌+◌, List, [], ◌∷◌, ◌++◌, cond, eqb}
use Rattle.std.specs.Cmp.Lexicographic.{pointwise}
use Rattle.tim_base.specs.Faults.{raised}

-- the names of those that are known, and how many there are for whose names memory was wanting
pub record Failures : Type 0 where
  pub named : List (List ℕ)
  pub lost : ℕ

-- how often a name stands among some
abbrev pub times : List ℕ → List (List ℕ) → ℕ
times name [] = 0
times name (n ∷ ns) = cond (pointwise eqb name n) 1 0 + times name ns

-- the count of a name: how often it failed; one that is lost counts for each name
abbrev pub faults_of : Failures → List ℕ → ℕ
faults_of f name = times name f.named + f.lost

-- one more, of this name, or one that is lost
abbrev pub IsOneMore : Failures → Failures → List ℕ → Type 0
IsOneMore old new name =
    (new ≡ record { named = old.named ++ name ∷ []; lost = old.lost }) ⊎ (new ≡ record { named = old.named; lost = raised old.lost })

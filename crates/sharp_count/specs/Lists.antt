-- What `rising` counts.
use Rattle.std.specs.Prelude.{◌≡◌, ℕ, zero, suc, ◌<◌, ◌≤◌, List, [], ◌∷◌, length, ◌⊎◌}
use Rattle.leak_bound.specs.Records.{Each}
use Rattle.leak_bound.specs.Rising.{rising}

-- k numbers from m on, below b, that never fall
abbrev pub NeverFalling : ℕ → ℕ → ℕ → List ℕ → Type 0
NeverFalling m b zero xs = xs ≡ []
NeverFalling m b (suc k) [] = ⊥
NeverFalling m b (suc k) (x ∷ xs) = (m ≤ x) × (x < b) × NeverFalling x b k xs

abbrev pub IsAmong : {X : Type 0} → X → List X → Type 0
IsAmong x [] = ⊥
IsAmong x (y ∷ all) = (x ≡ y) ⊎ IsAmong x all

abbrev pub AllDiffer : {X : Type 0} → List X → Type 0
AllDiffer [] = Unit {0}
AllDiffer (x ∷ all) = Each (λ y. x ≡ y → ⊥) all × AllDiffer all

-- all lists of k numbers below b that never fall
pub record IsListing (b k : ℕ) (all : List (List ℕ)) : Type 0 where
  pub each : Each (NeverFalling 0 b k) all
  pub whole : (xs : List ℕ) → NeverFalling 0 b k xs → IsAmong xs all
  pub differ : AllDiffer all

-- there are as many as `rising` says
abbrev pub RisingCounts : Type 0
RisingCounts = (b k : ℕ) → (all : List (List ℕ)) × IsListing b k all × (length all ≡ rising b k)

abbrev pub RisingOne : Type 0
RisingOne = (b : ℕ) → rising b 1 ≡ b

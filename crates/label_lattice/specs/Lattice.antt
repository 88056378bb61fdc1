-- Labels as numbers: which flows to which, joins, and a bottom.
use Rattle.std.specs.Prelude.{◌≡◌, ℕ, ◌<◌, Bool, true, cond, ltb, leb, ◌&&◌, max}

pub record Lattice : Type 0 where
  pub flows : ℕ → ℕ → Bool
  pub join : ℕ → ℕ → ℕ
  pub bottom : ℕ

abbrev pub Flows : Lattice → ℕ → ℕ → Type 0
Flows lat a b = lat.flows a b ≡ true

-- the laws of a lattice, for all numbers
pub record IsLattice (lat : Lattice) : Type 0 where
  pub same : (a : ℕ) → Flows lat a a
  pub chain : (a b c : ℕ) → Flows lat a b → Flows lat b c → Flows lat a c
  pub anti : (a b : ℕ) → Flows lat a b → Flows lat b a → a ≡ b
  pub left : (a b : ℕ) → Flows lat a (lat.join a b)
  pub right : (a b : ℕ) → Flows lat b (lat.join a b)
  pub least : (a b c : ℕ) → Flows lat a c → Flows lat b c → Flows lat (lat.join a b) c
  pub lowest : (a : ℕ) → Flows lat lat.bottom a

-- the laws of the labels below n
pub record IsTable (n : ℕ) (flows : ℕ → ℕ → Bool) (join : ℕ → ℕ → ℕ) (bottom : ℕ) : Type 0 where
  pub some : bottom < n
  pub closed : (a b : ℕ) → a < n → b < n → join a b < n
  pub same : (a : ℕ) → a < n → flows a a ≡ true
  pub chain : (a b c : ℕ) → a < n → b < n → c < n → flows a b ≡ true → flows b c ≡ true → flows a c ≡ true
  pub anti : (a b : ℕ) → a < n → b < n → flows a b ≡ true → flows b a ≡ true → a ≡ b
  pub left : (a b : ℕ) → a < n → b < n → flows a (join a b) ≡ true
  pub right : (a b : ℕ) → a < n → b < n → flows b (join a b) ≡ true
  pub least : (a b c : ℕ) → a < n → b < n → c < n → flows a c ≡ true → flows b c ≡ true → flows (join a b) c ≡ true
  pub lowest : (a : ℕ) → a < n → flows bottom a ≡ true

-- The labels below n, and the numbers from n on above them in their own order: a number that is no
-- label counts as a label above all, so that no law above speaks of ranges.
abbrev pub over_all : ℕ → (ℕ → ℕ → Bool) → (ℕ → ℕ → ℕ) → ℕ → Lattice
over_all n flows join bottom =
    record {
      flows = λ a b. cond (ltb a n && ltb b n) (flows a b) (leb a b);
      join = λ a b. cond (ltb a n && ltb b n) (join a b) (max a b);
      bottom = bottom;
    }

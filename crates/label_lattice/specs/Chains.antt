-- What written pairs of labels say, and what keeps them from being a lattice.
use Rattle.std.specs.Prelude.{◌≡◌, ℕ, ◌<◌, ◌≤◌, List, [], ◌∷◌, length, All, ◌⊎◌, ◌↔◌}
use Rattle.label_lattice.specs.declared.label.Label.{Label}
use Rattle.label_lattice.specs.declared.fault.LatticeFault.{LatticeFault}
use Rattle.label_lattice.specs.declared.fault.LatticeFault.TheVariants.{TooMany, Cycle, NoBottom, NoJoin}
use Rattle.label_lattice.specs.Lattice.{Flows}
use Rattle.label_lattice.specs.Order.{most_labels, Order, IsOrder, lattice_of}

-- the pair of labels is written
abbrev pub IsWritten : List (Label × Label) → ℕ → ℕ → Type 0
IsWritten [] a b = ⊥
IsWritten (p ∷ ps) a b = ((p.0.number ≡ a) × (p.1.number ≡ b)) ⊎ IsWritten ps a b

-- zero or more written pairs lead from one label to another
pub data Chain (pairs : List (Label × Label)) : ℕ → ℕ → Type 0 where
  none : {a : ℕ} → Chain pairs a a
  more : {a b c : ℕ} → IsWritten pairs a b → Chain pairs b c → Chain pairs a c

-- the pairs are of labels below n
abbrev pub AreBelow : ℕ → List (Label × Label) → Type 0
AreBelow n pairs = All (λ p. (p.0.number < n) × (p.1.number < n)) pairs

-- both labels flow to each other
abbrev pub IsCycle : (ℕ → ℕ → Type 0) → ℕ → ℕ → Type 0
IsCycle flows a b = flows a b × flows b a

-- no other of the labels below n flows to this one
abbrev pub IsLowest : ℕ → (ℕ → ℕ → Type 0) → ℕ → Type 0
IsLowest n flows a = (c : ℕ) → c < n → flows c a → c ≡ a

-- two labels to which no other label flows
abbrev pub AreLowest : ℕ → (ℕ → ℕ → Type 0) → ℕ → ℕ → Type 0
AreLowest n flows a b = IsLowest n flows a × IsLowest n flows b

-- both flow to this label, which flows to each of the labels below n to which both flow
pub record IsJoin (n : ℕ) (flows : ℕ → ℕ → Type 0) (a b c : ℕ) : Type 0 where
  pub left : flows a c
  pub right : flows b c
  pub least : (d : ℕ) → d < n → flows a d → flows b d → flows c d

-- none of the labels below n is a join of these two
abbrev pub HaveNoJoin : ℕ → (ℕ → ℕ → Type 0) → ℕ → ℕ → Type 0
HaveNoJoin n flows a b = (c : ℕ) → c < n → IsJoin n flows a b c → ⊥

-- no two labels below n are in the relation
abbrev pub IsNoPair : ℕ → (ℕ → ℕ → Type 0) → Type 0
IsNoPair n P = (a b : ℕ) → a < b → b < n → P a b → ⊥

-- the first two labels below n that are in the relation, the lower one first
pub record IsFirstPair (n : ℕ) (P : ℕ → ℕ → Type 0) (a b : ℕ) : Type 0 where
  pub ordered : a < b
  pub within : b < n
  pub holds : P a b
  pub first : (c d : ℕ) → c < d → d < n → P c d → (a < c) ⊎ ((a ≡ c) × (b ≤ d))

-- what is wrong with n labels of which these flow to each other: the first fault that applies
abbrev pub IsFault : ℕ → (ℕ → ℕ → Type 0) → LatticeFault → Type 0
IsFault n flows (TooMany count) = (most_labels < n) × (count ≡ n)
IsFault n flows (Cycle a b) = (n ≤ most_labels) × IsFirstPair n (IsCycle flows) a.number b.number
IsFault n flows (NoBottom a b) = (n ≤ most_labels) × IsNoPair n (IsCycle flows) × IsFirstPair n (AreLowest n flows) a.number b.number
IsFault n flows (NoJoin a b) =
    (n ≤ most_labels) × IsNoPair n (IsCycle flows) × IsNoPair n (AreLowest n flows) × IsFirstPair n (HaveNoJoin n flows) a.number b.number

-- nothing is wrong with n labels of which these flow to each other
pub record IsSound (n : ℕ) (flows : ℕ → ℕ → Type 0) : Type 0 where
  pub few : n ≤ most_labels
  pub no_cycle : IsNoPair n (IsCycle flows)
  pub one_lowest : IsNoPair n (AreLowest n flows)
  pub joined : IsNoPair n (HaveNoJoin n flows)

-- the lattice is that of these names and pairs: there is one at most
pub record IsBuilt (names : List (List ℕ)) (pairs : List (Label × Label)) (o : Order) : Type 0 where
  pub sound : IsSound (length names) (Chain pairs)
  pub order : IsOrder o
  pub size : o.size ≡ length names
  pub named : o.names ≡ names
  pub flows : (a b : ℕ) → a < length names → b < length names → Flows (lattice_of o) a b ↔ Chain pairs a b

-- A program that nearly reaches the count: mitigate (1, high) { sleep h }; l := 1.
use Rattle.std.specs.Prelude.{◌≡◌, ℕ, zero, suc, ◌-◌, ◌^◌, ◌<◌, ◌≤◌, List, [], ◌∷◌, ◌++◌, length, map, replicate, Bool, true, false, cond, eqb, ℤ, pos}
use Rattle.mit_syntax.specs.Expression.{Number, Variable}
use Rattle.mit_syntax.specs.Todo.{Marks, Marked, Done, Assign, Sleep, Mitigate}
use Rattle.label_lattice.specs.Lattice.{Lattice, Flows, IsLattice}
use Rattle.label_lattice.specs.Order.{Order, row, lattice_of}
use Rattle.env_contract.specs.Env.{Env}
use Rattle.label_code.specs.Machine.{Event}
use Rattle.label_code.specs.Run.{Start}
use Rattle.label_code.specs.declared.code.Instr.{Instr}
use Rattle.code_lower.specs.Code.{image_of}
use Rattle.leak_bound.specs.Digits.{digits}
use Rattle.leak_bound.specs.Records.{Each, Pairwise, Tests, distinct_count}
use Rattle.leak_bound.specs.Sound.{Agree, seen_from, Halts, IsCompiled}
use Rattle.sharp_bound.specs.Guess.{FewShown}
use Rattle.sharp_bound.specs.Sharp.{BeginsEach}

-- variable 0 is h, of the label high; each other variable is the observer's
abbrev pub h_high : ℕ → ℕ → ℕ → ℕ
h_high high o x = cond (eqb x 0) high o

-- each level is high
abbrev pub all_high : ℕ → ℕ → ℕ
all_high high k = high

-- mitigate (1, high) { sleep h }; l := 1, where l is variable 1
abbrev pub naps : Lattice → ℕ → Marked
naps lat high =
    let m : Marks = record { er = lat.bottom; ew = lat.bottom } in
    Mitigate m 0 high (Number (pos 1)) (Sleep m (Variable 0) Done) (Assign m 1 (Number (pos 1)) Done)

abbrev pub naps_image : Lattice → ℕ → ℕ → List Instr
naps_image lat high o = image_of lat (h_high high o) (naps lat high)

-- h = 2 ^ n and l = 0
abbrev pub power : {E : Type 0} → E → ℕ → Start E
power e n = record { memory = pos (2 ^ n) ∷ pos 0 ∷ []; env = e }

-- h = 2 ^ n, 2 ^ (n + 1) and so on, k of them
abbrev pub powers : {E : Type 0} → E → ℕ → ℕ → List (Start E)
powers e n zero = []
powers e n (suc k) = power e n ∷ powers e (suc n) k

-- no two of a list show the same
abbrev pub ShowApart : {X V : Type 0} → (X → V) → List X → Type 0
ShowApart see [] = Unit {0}
ShowApart see (x ∷ xs) = Each (λ y. see x ≡ see y → ⊥) xs × ShowApart see xs

-- Where T has b binary digits, the b - 4 starts h = 2 ^ 2, .., 2 ^ (b - 3) agree pairwise for the observer and
-- halt by T, and no two of them show the same.
pub record Nearly {E : Type 0} (v : Env E) (lat : Lattice) (serves : E → Type 0) (high o t : ℕ) (starts : List (Start E)) : Type 0 where
  pub long : length starts ≡ digits t - 4
  pub agree : Pairwise (Agree v lat serves (h_high high o) o) starts
  pub halt : Each (Halts v (naps_image lat high o) t) starts
  pub apart : ShowApart (seen_from v lat (h_high high o) (naps_image lat high o) o t) starts
  pub count : (same : List Event → List Event → Bool) → Tests same →
      distinct_count same (map (seen_from v lat (h_high high o) (naps_image lat high o) o t) starts) ≡ digits t - 4

-- What this program tells an observer o to whom the label high does not flow.
pub record NapsTell {E : Type 0} (v : Env E) (order : Order) (serves : E → Type 0) (o high : ℕ) : Type 0 where
  -- it is accepted, with this image
  pub accepted : IsCompiled order (h_high high o) (all_high high) (naps_image (lattice_of order) high o) (naps (lattice_of order) high)
  -- it begins one relevant mitigate, of the level high
  pub begins : (memory : List ℤ) → BeginsEach (lattice_of order) (h_high high o) (all_high high) o (naps (lattice_of order) high) memory (λ l. cond (eqb high l)
      1 0)
  -- so its sharp count is b: starts that agree and halt by T show at most so many different sequences
  pub most : (t : ℕ) → 0 < t → (starts : List (Start E)) →
      Pairwise (Agree v (lattice_of order) serves (h_high high o) o) starts → Each (Halts v (naps_image (lattice_of order) high o) t) starts →
      (same : List Event → List Event → Bool) → Tests same →
      FewShown (seen_from v (lattice_of order) (h_high high o) (naps_image (lattice_of order) high o) o t) same starts (digits t)
  -- and b - 4 are shown
  pub nearly : (e : E) → serves e → (t : ℕ) → Nearly v (lattice_of order) serves high o t (powers e 2 (digits t - 4))
  -- where T is a power of two, no more than b - 4 are shown by starts h = 2 ^ n, with whatever n
  pub four : (e : E) (d : ℕ) (starts : List (Start E)) → Each (λ s. (n : ℕ) × (s ≡ power e n)) starts
      → Each (Halts v (naps_image (lattice_of order) high o) (2 ^ d)) starts →
      (same : List Event → List Event → Bool) → Tests same →
      distinct_count same (map (seen_from v (lattice_of order) (h_high high o) (naps_image (lattice_of order) high o) o (2 ^ d)) starts) ≤ digits (2 ^ d) - 4

-- so it is in every lattice, for every observer to whom some label does not flow
abbrev pub NearlyReached : {E : Type 0} → Env E → (Order → E → Type 0) → Type 0
NearlyReached v serves =
    (order : Order) → IsLattice (lattice_of order) → (o high : ℕ) → o < order.size → high < order.size →
    (Flows (lattice_of order) high o → ⊥) → NapsTell v order (serves order) o high

-- a row of a table: two cells, and those of numbers that are no labels
abbrev pub row_of : {X : Type 0} → X → X → X → List X
row_of a b none = a ∷ b ∷ replicate (row - 2) none

-- label 0 flows to label 1
abbrev pub two_labels : Order
two_labels =
    record {
      size = 2;
      names = (76 ∷ []) ∷ (72 ∷ []) ∷ [];
      flows = row_of true true false ++ row_of false true false;
      joins = row_of 0 1 0 ++ row_of 1 1 0;
      bottom = 0;
    }

-- such a lattice and such labels
abbrev pub TwoLabels : Type 0
TwoLabels = IsLattice (lattice_of two_labels) × (Flows (lattice_of two_labels) 1 0 → ⊥)

-- Any number of runs after each other of one secret: all that was seen before decides which run is the next.
use Rattle.std.specs.Prelude.{◌≡◌, ℕ, zero, suc, ◌*◌, ◌<◌, List, [], ◌∷◌, Bool, map}
use Rattle.mit_syntax.specs.Todo.{Todo, Marked}
use Rattle.label_lattice.specs.Order.{Order, lattice_of}
use Rattle.env_contract.specs.Env.{Env}
use Rattle.label_code.specs.Machine.{Event}
use Rattle.label_code.specs.Run.{Start}
use Rattle.label_code.specs.declared.code.Instr.{Instr}
use Rattle.leak_bound.specs.Records.{Each, Pairwise, Tests}
use Rattle.leak_bound.specs.Sound.{Agree, seen_from, IsCompiled}
use Rattle.sharp_bound.specs.Firsts.{PredictsBy}
use Rattle.sharp_bound.specs.Guess.{FewShown, that_show}
use Rattle.sharp_bound.specs.Sharp.{cut_count}
use Rattle.further_counts.specs.Twice.{Covers}

-- what the first n views of a secret show, the latest first; view n is taken by what was seen before it
abbrev pub seen_in : {X V : Type 0} → (ℕ → List V → X → V) → ℕ → X → List V
seen_in view zero x = []
seen_in view (suc n) x = view n (seen_in view n x) x ∷ seen_in view n x

abbrev pub product_of : (ℕ → ℕ) → ℕ → ℕ
product_of ms zero = 1
product_of ms (suc n) = product_of ms n * ms n

-- If each view shows few, at most so many, of the members that have shown the same before it, then all together show
-- at most the product.
abbrev pub FewMany : Type 0 → Type 0 → Type 0
FewMany X V =
    (view : ℕ → List V → X → V) (same : V → V → Bool) (alike : List V → List V → Bool) →
    Tests same → Tests alike → (xs : List X) (ms : ℕ → ℕ) (n : ℕ) →
    ((i : ℕ) → i < n → (w : List V) → FewShown (view i w) same (that_show (seen_in view i) alike w xs) (ms i)) →
    FewShown (seen_in view n) alike xs (product_of ms n)

-- Of a secret x run number i, of program number i, goes from start i w x and is seen to its T, where w is all that
-- was seen before. The start may hold what the runs before left in memory and environment, since the secret tells that.
-- Where the starts of secrets that have shown the same agree, all runs together show few.
pub record SharpMany {E M L : Type 0} (X : Type 0) (v : Env E) (order : Order) (serves : E → Type 0) (g ls : ℕ → ℕ → ℕ) (image : ℕ → List Instr)
    (p : ℕ → Todo M L) : Type 0 where
  -- runs that halt: at most the product of the sharp counts
  pub halted : (o : ℕ) → o < order.size → (t : ℕ → ℕ) → ((i : ℕ) → 0 < t i)
      → (start : ℕ → List (List Event) → X → Start E) (xs : List X) (firsts : ℕ → ℕ → ℕ) (ms : ℕ → ℕ) (n : ℕ) →
      let view : ℕ → List (List Event) → X → List Event = λ i w x. seen_from v (lattice_of order) (g i) (image i) o (t i) (start i w x) in
      let next : ℕ → X → Start E = λ i x. start i (seen_in view i x) x in
      ((i : ℕ) → i < n → Pairwise (λ x y. seen_in view i x ≡ seen_in view i y → Agree v (lattice_of order) serves (g i) o (next i x) (next i y)) xs) →
      ((i : ℕ) → i < n → Each (λ x. Covers v order (g i) (ls i) (image i) (p i) o (t i) (firsts i) (ms i) (next i x)) xs) →
      (alike : List (List Event) → List (List Event) → Bool) → Tests alike →
      FewShown (seen_in view n) alike xs (product_of ms n)
  -- any runs
  pub cut : (o : ℕ) → o < order.size → (t : ℕ → ℕ) → ((i : ℕ) → 0 < t i)
      → (start : ℕ → List (List Event) → X → Start E) (xs : List X) (firsts : ℕ → ℕ → ℕ) (n : ℕ) →
      let view : ℕ → List (List Event) → X → List Event = λ i w x. seen_from v (lattice_of order) (g i) (image i) o (t i) (start i w x) in
      let next : ℕ → X → Start E = λ i x. start i (seen_in view i x) x in
      ((i : ℕ) → i < n → Pairwise (λ x y. seen_in view i x ≡ seen_in view i y → Agree v (lattice_of order) serves (g i) o (next i x) (next i y)) xs) →
      ((i : ℕ) → i < n → Each (λ x. PredictsBy v (lattice_of order) (g i) (ls i) (image i) (p i) o (t i) (firsts i) (next i x)) xs) →
      (alike : List (List Event) → List (List Event) → Bool) → Tests alike →
      FewShown (seen_in view n) alike xs (product_of (λ i. cut_count v order (g i) (ls i) (image i) (p i) o (t i) (firsts i) (map (next i) xs)) n)

abbrev pub SharpManyAll : {E : Type 0} → Type 0 → Env E → (Order → E → Type 0) → Type 0
SharpManyAll X v serves =
    (order : Order) (g ls : ℕ → ℕ → ℕ) (image : ℕ → List Instr) (p : ℕ → Marked) →
    ((i : ℕ) → IsCompiled order (g i) (ls i) (image i) (p i)) → SharpMany X v order (serves order) g ls image p

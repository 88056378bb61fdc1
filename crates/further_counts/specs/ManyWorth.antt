-- Any number of runs after each other of one secret, whatever the secrets weigh and whatever is asked of them.
use Rattle.std.specs.Prelude.{◌≡◌, ℕ, ◌<◌, List, Bool, map}
use Rattle.mit_syntax.specs.Todo.{Todo}
use Rattle.mit_syntax.specs.Program.{plan_of}
use Rattle.label_lattice.specs.Order.{Order, lattice_of}
use Rattle.timing_types.specs.Labelled.{LabelledProgram, labels_of, levels_of}
use Rattle.env_contract.specs.Env.{Env}
use Rattle.label_code.specs.Machine.{Event}
use Rattle.label_code.specs.Run.{Start}
use Rattle.label_code.specs.declared.code.Instr.{Instr}
use Rattle.code_lower.specs.Lowered.{lowered}
use Rattle.leak_bound.specs.Records.{Each, Pairwise, Tests}
use Rattle.leak_bound.specs.Sound.{Agree, seen_from}
use Rattle.leak_bound.specs.Source.{IsTypedWith}
use Rattle.sharp_bound.specs.Firsts.{PredictsBy}
use Rattle.further_counts.specs.Many.{seen_in, product_of}
use Rattle.sharp_bound.specs.Sharp.{cut_count}
use Rattle.further_counts.specs.Twice.{Covers}
use Rattle.gain_bound.specs.Worth.{FewWorth}

-- Run number i of a secret x, of program number i, goes from start i w x and is seen to its T, where w is all that was seen
-- before. Where the starts of secrets that have shown the same agree, all runs together are worth at most the product of
-- their counts.
pub record WorthMany {E M L : Type 0} (X A : Type 0) (v : Env E) (order : Order) (serves : E → Type 0) (g ls : ℕ → ℕ → ℕ) (image : ℕ → List Instr)
    (p : ℕ → Todo M L) : Type 0 where
  -- runs that halt: of their sharp counts
  pub halted : (o : ℕ) → o < order.size → (t : ℕ → ℕ) → ((i : ℕ) → 0 < t i)
      → (start : ℕ → List (List Event) → X → Start E) (xs : List X) (firsts : ℕ → ℕ → ℕ) (ms : ℕ → ℕ) (n : ℕ) →
      let view : ℕ → List (List Event) → X → List Event = λ i w x. seen_from v (lattice_of order) (g i) (image i) o (t i) (start i w x) in
      let next : ℕ → X → Start E = λ i x. start i (seen_in view i x) x in
      ((i : ℕ) → i < n → Pairwise (λ x y. seen_in view i x ≡ seen_in view i y → Agree v (lattice_of order) serves (g i) o (next i x) (next i y)) xs) →
      ((i : ℕ) → i < n → Each (λ x. Covers v order (g i) (ls i) (image i) (p i) o (t i) (firsts i) (ms i) (next i x)) xs) →
      (alike : List (List Event) → List (List Event) → Bool) → Tests alike →
      FewWorth A (seen_in view n) alike xs (product_of ms n)
  -- any runs: of the counts of runs that may be cut
  pub cut : (o : ℕ) → o < order.size → (t : ℕ → ℕ) → ((i : ℕ) → 0 < t i)
      → (start : ℕ → List (List Event) → X → Start E) (xs : List X) (firsts : ℕ → ℕ → ℕ) (n : ℕ) →
      let view : ℕ → List (List Event) → X → List Event = λ i w x. seen_from v (lattice_of order) (g i) (image i) o (t i) (start i w x) in
      let next : ℕ → X → Start E = λ i x. start i (seen_in view i x) x in
      ((i : ℕ) → i < n → Pairwise (λ x y. seen_in view i x ≡ seen_in view i y → Agree v (lattice_of order) serves (g i) o (next i x) (next i y)) xs) →
      ((i : ℕ) → i < n → Each (λ x. PredictsBy v (lattice_of order) (g i) (ls i) (image i) (p i) o (t i) (firsts i) (next i x)) xs) →
      (alike : List (List Event) → List (List Event) → Bool) → Tests alike →
      FewWorth A (seen_in view n) alike xs (product_of (λ i. cut_count v order (g i) (ls i) (image i) (p i) o (t i) (firsts i) (map (next i) xs)) n)

-- for labelled programs over one lattice
abbrev pub LoweredWorthManyAll : {E : Type 0} → Type 0 → Type 0 → Env E → (Order → E → Type 0) → Type 0
LoweredWorthManyAll X A v serves =
    (order : Order) (q : ℕ → LabelledProgram) → ((i : ℕ) → IsTypedWith (q i) × ((q i).program.order ≡ order)) →
    WorthMany X A v order (serves order) (λ i. labels_of (q i)) (λ i. levels_of (q i)) (λ i. (lowered (q i)).instrs) (λ i. plan_of (q i).program)

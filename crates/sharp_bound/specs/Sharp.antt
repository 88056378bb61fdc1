-- The sharper count: for each level, lists of miss counts that never fall.
use Rattle.std.specs.Prelude.{◌≡◌, ℕ, ◌+◌, ◌-◌, ◌*◌, ◌^◌, ◌<◌, ◌≤◌, List, Bool, eqb, ◌&&◌, ℤ}
use Rattle.std.specs.List.{count_by}
use Rattle.mit_syntax.specs.Todo.{Todo, Marked}
use Rattle.label_lattice.specs.Lattice.{Lattice}
use Rattle.label_lattice.specs.Order.{Order, lattice_of, count_not_below}
use Rattle.source_meaning.specs.Source.{marks_of, HasEnded}
use Rattle.env_contract.specs.Env.{Env}
use Rattle.label_code.specs.Run.{Start}
use Rattle.label_code.specs.declared.code.Instr.{Instr}
use Rattle.leak_bound.specs.Digits.{digits}
use Rattle.leak_bound.specs.Relevant.{is_relevant}
use Rattle.leak_bound.specs.Records.{Each, Pairwise, Tests}
use Rattle.leak_bound.specs.Sound.{Agree, seen_from, Halts, bound, FirstBegins, most_ended, IsCompiled}
use Rattle.leak_bound.specs.Rising.{sharp}
use Rattle.sharp_count.specs.Levels.{miss_counts}
use Rattle.sharp_bound.specs.Firsts.{PredictsBy}
use Rattle.sharp_bound.specs.Guess.{FewShown}

-- whether the mitigate with a mark is relevant and of level l
abbrev pub relevant_at : {M L : Type 0} → Lattice → (ℕ → ℕ) → (ℕ → ℕ) → ℕ → Todo M L → ℕ → ℕ → Bool
relevant_at lat g ls o p l k = is_relevant lat g ls o p k && eqb (ls k) l

-- the program ends from this memory, and begins until then as many relevant mitigates of each level as are counted
abbrev pub BeginsEach : {M L : Type 0} → Lattice → (ℕ → ℕ) → (ℕ → ℕ) → ℕ → Todo M L → List ℤ → (ℕ → ℕ) → Type 0
BeginsEach lat g ls o p m counts = (n : ℕ) × HasEnded p m n × ((l : ℕ) → count_by (relevant_at lat g ls o p l) (marks_of p m n) ≡ counts l)

-- (k + 1) ^ (L * (b - 1)), where L counts the labels that do not flow to the observer, and b the binary digits of T
abbrev pub closer : Order → ℕ → ℕ → ℕ → ℕ
closer order o t k = (k + 1) ^ (count_not_below (lattice_of order) o order.size * (digits t - 1))

-- for each level the miss counts at which its mitigations can end by T, if their first predictions are those or more
abbrev pub ends_by : ℕ → (ℕ → ℕ) → ℕ → ℕ
ends_by t firsts l = miss_counts t (firsts l)

-- Of starts that agree pairwise for an observer and halt by T, as many relevant mitigates of each level begin,
-- and a view of the runs shows few: at most the product over the levels of the lists of miss counts at which such
-- mitigations can end, which is also what the view can be worth to a guesser of the start. That product is at most
-- (k + 1) ^ (L * (b - 1)), where k counts the relevant mitigates that begin, and so at most the bound.
abbrev pub FewHalted : {E V M L : Type 0} → Env E → Order → (E → Type 0) → (ℕ → ℕ) → (ℕ → ℕ) → List Instr → Todo M L → ℕ → ℕ → (Start E → V) → Type 0
FewHalted {E} {V} v order serves g ls image p o t view =
    (starts : List (Start E)) →
    Pairwise (Agree v (lattice_of order) serves g o) starts → Each (Halts v image t) starts →
    (firsts : ℕ → ℕ) → Each (λ s. PredictsBy v (lattice_of order) g ls image p o t firsts s) starts →
    (same : V → V → Bool) → Tests same →
    (counts : ℕ → ℕ)
    × Each (λ s. BeginsEach (lattice_of order) g ls o p s.memory counts) starts
    × FewShown view same starts (sharp (ends_by t firsts) order.size counts)
    × ((k : ℕ) → FirstBegins (lattice_of order) g ls o p starts k →
    (sharp (ends_by t firsts) order.size counts ≤ closer order o t k) × (closer order o t k ≤ bound order o t k))

-- one value more for each level, which stands for a mitigation that has not ended
abbrev pub cut_count : {E M L : Type 0} → Env E → Order → (ℕ → ℕ) → (ℕ → ℕ) → List Instr → Todo M L → ℕ → ℕ → (ℕ → ℕ) → List (Start E) → ℕ
cut_count v order g ls image p o t firsts starts =
    sharp (λ l. ends_by t firsts l + 1) order.size (λ l. most_ended v image (relevant_at (lattice_of order) g ls o p l) t starts)

-- Of starts that agree pairwise, whether or not the runs have halted, a view shows few, which is at most the
-- bound.
abbrev pub FewCut : {E V M L : Type 0} → Env E → Order → (E → Type 0) → (ℕ → ℕ) → (ℕ → ℕ) → List Instr → Todo M L → ℕ → ℕ → (Start E → V) → Type 0
FewCut {E} {V} v order serves g ls image p o t view =
    (starts : List (Start E)) → Pairwise (Agree v (lattice_of order) serves g o) starts →
    (firsts : ℕ → ℕ) → Each (λ s. PredictsBy v (lattice_of order) g ls image p o t firsts s) starts →
    (same : V → V → Bool) → Tests same →
    FewShown view same starts (cut_count v order g ls image p o t firsts starts)
    × (cut_count v order g ls image p o t firsts starts ≤ bound order o t (most_ended v image (is_relevant (lattice_of order) g ls o p) t starts))

-- so it is of the assignments that the observer sees, with their cycles
pub record SharpSound {E M L : Type 0} (v : Env E) (order : Order) (serves : E → Type 0) (g ls : ℕ → ℕ) (image : List Instr) (p : Todo M L) : Type 0 where
  pub few : (o : ℕ) → o < order.size → (t : ℕ) → 0 < t → FewHalted v order serves g ls image p o t (seen_from v (lattice_of order) g image o t)

pub record SharpCut {E M L : Type 0} (v : Env E) (order : Order) (serves : E → Type 0) (g ls : ℕ → ℕ) (image : List Instr) (p : Todo M L) : Type 0 where
  pub few : (o : ℕ) → o < order.size → (t : ℕ) → 0 < t → FewCut v order serves g ls image p o t (seen_from v (lattice_of order) g image o t)

abbrev pub SharpSoundAll : {E : Type 0} → Env E → (Order → E → Type 0) → Type 0
SharpSoundAll v serves = (order : Order) (g ls : ℕ → ℕ) (image : List Instr) (p : Marked) → IsCompiled order g ls image p
    → SharpSound v order (serves order) g ls image p

abbrev pub SharpCutAll : {E : Type 0} → Env E → (Order → E → Type 0) → Type 0
SharpCutAll v serves = (order : Order) (g ls : ℕ → ℕ) (image : List Instr) (p : Marked) → IsCompiled order g ls image p
    → SharpCut v order (serves order) g ls image p

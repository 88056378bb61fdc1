-- Two runs after each other of one secret: what the first shows decides which run is the second.
use Rattle.std.specs.Prelude.{◌≡◌, ℕ, ◌*◌, ◌<◌, ◌≤◌, List, Bool, map}
use Rattle.mit_syntax.specs.Todo.{Todo, Marked}
use Rattle.label_lattice.specs.Order.{Order, lattice_of}
use Rattle.env_contract.specs.Env.{Env}
use Rattle.label_code.specs.Machine.{Event}
use Rattle.label_code.specs.Run.{Start, run_from}
use Rattle.label_code.specs.declared.code.Instr.{Instr}
use Rattle.leak_bound.specs.Records.{Each, Pairwise, Tests}
use Rattle.leak_bound.specs.Sound.{Agree, seen_from, Halts, IsCompiled}
use Rattle.sharp_bound.specs.Guess.{FewShown, that_show}
use Rattle.leak_bound.specs.Rising.{sharp}
use Rattle.sharp_bound.specs.Firsts.{PredictsBy}
use Rattle.sharp_bound.specs.Sharp.{BeginsEach, ends_by, cut_count}

-- the first view, and then the second
abbrev pub both : {X V W : Type 0} → (X → V) → (V → X → W) → X → V × W
both see next x = (see x, next (see x) x)

-- If the first shows few, at most n, and after each view the second shows few, at most m, of the members that
-- showed that view, then both together show at most n * m: so many pairs of views, and so much better guesses.
abbrev pub FewTwice : Type 0 → Type 0 → Type 0 → Type 0
FewTwice X V W =
    (see : X → V) (next : V → X → W) (same : V → V → Bool) (same' : W → W → Bool) (alike : V × W → V × W → Bool) →
    Tests same → Tests same' → Tests alike → (xs : List X) (n m : ℕ) →
    FewShown see same xs n → ((v : V) → FewShown (next v) same' (that_show see same v xs) m) →
    FewShown (both see next) alike xs (n * m)

-- the run from s halts by T, its relevant mitigates have such first predictions, and n is at least the sharp count of
-- as many as it begins of each level
pub record Covers {E M L : Type 0} (v : Env E) (order : Order) (g ls : ℕ → ℕ) (image : List Instr) (p : Todo M L) (o t : ℕ) (firsts : ℕ → ℕ) (n : ℕ)
    (s : Start E) : Type 0 where
  pub halts : Halts v image t s
  pub predicts : PredictsBy v (lattice_of order) g ls image p o t firsts s
  pub counts : (counts : ℕ → ℕ) → BeginsEach (lattice_of order) g ls o p s.memory counts → sharp (ends_by t firsts) order.size counts ≤ n

-- Of a secret x the run from first x is seen to T, and then, of the same or of another program, the run from
-- second w x to T', where w is what was seen. So the observer chooses the low inputs of the second run after the
-- first. Where the first starts agree, and the second starts of secrets that showed the same first agree, both
-- runs together show few.
pub record SharpTwice {E M L M' L' : Type 0} (X : Type 0) (v : Env E) (order : Order) (serves : E → Type 0) (g ls : ℕ → ℕ) (image : List Instr) (p : Todo M L)
    (g' ls' : ℕ → ℕ) (image' : List Instr) (p' : Todo M' L') : Type 0 where
  -- runs that halt: at most the product of the sharp counts
  pub halted : (o : ℕ) → o < order.size → (t t' : ℕ) → 0 < t → 0 < t'
      → (first : X → Start E) (second : List Event → X → Start E) (xs : List X) (firsts firsts' : ℕ → ℕ) (n m : ℕ) →
      let see : X → List Event = λ x. seen_from v (lattice_of order) g image o t (first x) in
      let later : X → Start E = λ x. second (see x) x in
      Pairwise (λ x y. Agree v (lattice_of order) serves g o (first x) (first y)) xs →
      Pairwise (λ x y. see x ≡ see y → Agree v (lattice_of order) serves g' o (later x) (later y)) xs →
      Each (λ x. Covers v order g ls image p o t firsts n (first x)) xs →
      Each (λ x. Covers v order g' ls' image' p' o t' firsts' m (later x)) xs →
      (alike : List Event × List Event → List Event × List Event → Bool) → Tests alike →
      FewShown (both see (λ w x. seen_from v (lattice_of order) g' image' o t' (second w x))) alike xs (n * m)
  -- any runs
  pub cut : (o : ℕ) → o < order.size → (t t' : ℕ) → 0 < t → 0 < t'
      → (first : X → Start E) (second : List Event → X → Start E) (xs : List X) (firsts firsts' : ℕ → ℕ) →
      let see : X → List Event = λ x. seen_from v (lattice_of order) g image o t (first x) in
      let later : X → Start E = λ x. second (see x) x in
      Pairwise (λ x y. Agree v (lattice_of order) serves g o (first x) (first y)) xs →
      Pairwise (λ x y. see x ≡ see y → Agree v (lattice_of order) serves g' o (later x) (later y)) xs →
      Each (λ x. PredictsBy v (lattice_of order) g ls image p o t firsts (first x)) xs →
      Each (λ x. PredictsBy v (lattice_of order) g' ls' image' p' o t' firsts' (later x)) xs →
      (alike : List Event × List Event → List Event × List Event → Bool) → Tests alike →
      FewShown (both see (λ w x. seen_from v (lattice_of order) g' image' o t' (second w x))) alike xs
      (cut_count v order g ls image p o t firsts (map first xs) * cut_count v order g' ls' image' p' o t' firsts' (map later xs))

abbrev pub SharpTwiceAll : {E : Type 0} → Type 0 → Env E → (Order → E → Type 0) → Type 0
SharpTwiceAll X v serves =
    (order : Order) (g ls : ℕ → ℕ) (image : List Instr) (p : Marked) (g' ls' : ℕ → ℕ) (image' : List Instr) (p' : Marked) →
    IsCompiled order g ls image p → IsCompiled order g' ls' image' p' → SharpTwice X v order (serves order) g ls image p g' ls' image' p'

-- where the run to T has come to, as a start
abbrev pub left_by : {E : Type 0} → Env E → List Instr → ℕ → Start E → Start E
left_by v image t s = record { memory = (run_from v image t s).core.memory; env = (run_from v image t s).core.env }

-- Runs of starts that agree leave memories and environments that agree, once they have halted: so a second run
-- may begin with what the first left.
abbrev pub LeavesAgree : {E : Type 0} → Env E → (Order → E → Type 0) → Type 0
LeavesAgree {E} v serves =
    (order : Order) (g ls : ℕ → ℕ) (image : List Instr) (p : Marked) → IsCompiled order g ls image p →
    (o : ℕ) → o < order.size → (t : ℕ) (s s' : Start E) → Agree v (lattice_of order) (serves order) g o s s' →
    Halts v image t s → Halts v image t s' →
    Agree v (lattice_of order) (serves order) g o (left_by v image t s) (left_by v image t s')

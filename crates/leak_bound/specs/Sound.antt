-- The main theorem's statement.
use Rattle.std.specs.Prelude.{◌≡◌, ℕ, ◌+◌, ◌*◌, ◌^◌, ◌<◌, ◌≤◌, List, [], ◌∷◌, length, map, max, Bool, true, false}
use Rattle.mit_syntax.specs.Todo.{Todo, Marked}
use Rattle.mit_syntax.specs.Valid.{AreNumbered}
use Rattle.mit_syntax.specs.Values.{read}
use Rattle.label_lattice.specs.Lattice.{Lattice, Flows, IsLattice}
use Rattle.label_lattice.specs.Order.{Order, lattice_of, count_not_below}
use Rattle.timing_types.specs.Typing.{IsTyped}
use Rattle.timing_types.specs.Arrays.{ArraysIn}
use Rattle.env_contract.specs.Env.{Env}
use Rattle.env_contract.specs.Laws.{AgreeBelow}
use Rattle.label_code.specs.Machine.{Event}
use Rattle.label_code.specs.Run.{Start, run_from}
use Rattle.label_code.specs.declared.code.Instr.{Instr}
use Rattle.code_lower.specs.Layout.{IsImage}
use Rattle.code_lower.specs.Follows.{KeepsOrder}
use Rattle.leak_bound.specs.Digits.{digits}
use Rattle.label_code.specs.Visible.{visible}
use Rattle.leak_bound.specs.Relevant.{is_relevant, Begins, ended_count, LevelsBelow, LevelsAre}
use Rattle.leak_bound.specs.Records.{Each, Pairwise, Tests, distinct_count}

-- Two starts agree for an observer: variables whose labels flow to it have equal values, and the
-- environments, which serve the lattice, are equal in the parts of labels that flow to it.
pub record Agree {E : Type 0} (v : Env E) (lat : Lattice) (serves : E → Type 0) (g : ℕ → ℕ) (o : ℕ) (s s' : Start E) : Type 0 where
  pub one : serves s.env
  pub other : serves s'.env
  pub long : length s.memory ≡ length s'.memory
  pub low : (x : ℕ) → Flows lat (g x) o → read s.memory x ≡ read s'.memory x
  pub parts : AgreeBelow v lat o s.env s'.env

-- what the observer sees of the run to T: assignments to variables that flow to it, with their cycles
abbrev pub seen_from : {E : Type 0} → Env E → Lattice → (ℕ → ℕ) → List Instr → ℕ → ℕ → Start E → List Event
seen_from v lat g image o t s = visible lat g o (run_from v image t s).core.log

-- the run to T has come to its end
abbrev pub Halts : {E : Type 0} → Env E → List Instr → ℕ → Start E → Type 0
Halts v image t s = (run_from v image t s).halted ≡ true

-- (k + 1) ^ (L * b), where L counts the labels that do not flow to the observer, and b the binary digits of T
abbrev pub bound : Order → ℕ → ℕ → ℕ → ℕ
bound order o t k = (k + 1) ^ (count_not_below (lattice_of order) o order.size * digits t)

-- the count of a list of starts is that of its first, and 0 if it has none
abbrev pub FirstBegins : {E M L : Type 0} → Lattice → (ℕ → ℕ) → (ℕ → ℕ) → ℕ → Todo M L → List (Start E) → ℕ → Type 0
FirstBegins lat g ls o p [] k = k ≡ 0
FirstBegins lat g ls o p (s ∷ starts) k = Begins lat g ls o p s.memory k

-- A program's image is sound in an environment: it does what the program does, in its order; and of starts
-- that agree pairwise for an observer and halt by T, as many relevant mitigates begin, say k, and at most
-- (k + 1) ^ (L * b) different sequences are seen.
pub record Sound {E M L : Type 0} (v : Env E) (order : Order) (serves : E → Type 0) (g ls : ℕ → ℕ) (image : List Instr) (p : Todo M L) : Type 0 where
  pub keeps : KeepsOrder v image p
  pub few : (o : ℕ) → o < order.size → (t : ℕ) → 0 < t → (starts : List (Start E)) →
      Pairwise (Agree v (lattice_of order) serves g o) starts → Each (Halts v image t) starts →
      (same : List Event → List Event → Bool) → Tests same →
      (k : ℕ)
      × FirstBegins (lattice_of order) g ls o p starts k
      × Each (λ s. Begins (lattice_of order) g ls o p s.memory k) starts
      × (distinct_count same (map (seen_from v (lattice_of order) g image o t) starts) ≤ bound order o t k)

-- where no mitigate is relevant, starts that agree show one sequence, whether or not their runs have halted
abbrev pub ShowsOne : {E M L : Type 0} → Env E → Order → (E → Type 0) → (ℕ → ℕ) → (ℕ → ℕ) → List Instr → Todo M L → Type 0
ShowsOne {E} v order serves g ls image p =
    (o : ℕ) → o < order.size → ((k : ℕ) → is_relevant (lattice_of order) g ls o p k ≡ false) → (t : ℕ) (s s' : Start E) →
    Agree v (lattice_of order) serves g o s s' →
    seen_from v (lattice_of order) g image o t s ≡ seen_from v (lattice_of order) g image o t s'

-- the greatest number, over the runs, of relevant mitigations that ended by T
abbrev pub most_ended : {E : Type 0} → Env E → List Instr → (ℕ → Bool) → ℕ → List (Start E) → ℕ
most_ended v image rel t [] = 0
most_ended v image rel t (s ∷ starts) = max (ended_count rel (run_from v image t s).core.log) (most_ended v image rel t starts)

-- of starts that agree pairwise, few sequences are seen by T, whether or not the runs have halted
pub record CutSound {E M L : Type 0} (v : Env E) (order : Order) (serves : E → Type 0) (g ls : ℕ → ℕ) (image : List Instr) (p : Todo M L) : Type 0 where
  pub few : (o : ℕ) → o < order.size → (t : ℕ) → 0 < t → (starts : List (Start E)) →
      Pairwise (Agree v (lattice_of order) serves g o) starts →
      (same : List Event → List Event → Bool) → Tests same →
      distinct_count same (map (seen_from v (lattice_of order) g image o t) starts) ≤ bound order o t
      (most_ended v image (is_relevant (lattice_of order) g ls o p) t starts)

-- an accepted program, whose arrays have one label each, with its labels and its image
pub record IsCompiled (order : Order) (g ls : ℕ → ℕ) (image : List Instr) (p : Marked) : Type 0 where
  pub lattice : IsLattice (lattice_of order)
  pub levels : LevelsBelow order.size p
  pub told : LevelsAre ls p
  pub marks : AreNumbered 0 p
  pub arrays : ArraysIn g p
  pub typed : IsTyped (lattice_of order) g p
  pub code : IsImage (lattice_of order) g image p

-- every accepted program is sound in the environment
abbrev pub SoundAll : {E : Type 0} → Env E → (Order → E → Type 0) → Type 0
SoundAll v serves = (order : Order) (g ls : ℕ → ℕ) (image : List Instr) (p : Marked) → IsCompiled order g ls image p → Sound v order (serves order) g ls image p

abbrev pub ShowsOneAll : {E : Type 0} → Env E → (Order → E → Type 0) → Type 0
ShowsOneAll v serves = (order : Order) (g ls : ℕ → ℕ) (image : List Instr) (p : Marked) → IsCompiled order g ls image p
    → ShowsOne v order (serves order) g ls image p

abbrev pub CutSoundAll : {E : Type 0} → Env E → (Order → E → Type 0) → Type 0
CutSoundAll v serves = (order : Order) (g ls : ℕ → ℕ) (image : List Instr) (p : Marked) → IsCompiled order g ls image p
    → CutSound v order (serves order) g ls image p

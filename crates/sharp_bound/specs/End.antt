-- The end of a run, as a thing that is seen.
use Rattle.std.specs.Prelude.{ℕ, ◌<◌, List, [], ◌∷◌, cond}
use Rattle.mit_syntax.specs.Todo.{Todo, Marked}
use Rattle.label_lattice.specs.Lattice.{Lattice, Flows}
use Rattle.label_lattice.specs.Order.{Order, lattice_of}
use Rattle.timing_types.specs.Typing.{Types}
use Rattle.env_contract.specs.Env.{Env}
use Rattle.label_code.specs.Machine.{Event}
use Rattle.label_code.specs.Run.{Start, run_from}
use Rattle.label_code.specs.declared.code.Instr.{Instr}
use Rattle.leak_bound.specs.Sound.{seen_from, IsCompiled}
use Rattle.sharp_bound.specs.Sharp.{FewHalted, FewCut}
use Rattle.sharp_bound.specs.Shared.{FewShared}

-- the cycle at which the run has ended, if it has by T
abbrev pub end_from : {E : Type 0} → Env E → List Instr → ℕ → Start E → List ℕ
end_from v image t s = cond (run_from v image t s).halted ((run_from v image t s).core.clock ∷ []) []

-- the assignments that the observer sees, with their cycles, and then the cycle of the end
abbrev pub seen_to_end : {E : Type 0} → Env E → Lattice → (ℕ → ℕ) → List Instr → ℕ → ℕ → Start E → List Event × List ℕ
seen_to_end v lat g image o t s = (seen_from v lat g image o t s, end_from v image t s)

-- the program has an end label that flows to the observer
abbrev pub EndsLow : Lattice → (ℕ → ℕ) → Marked → ℕ → Type 0
EndsLow lat g p o = (end : ℕ) × Types lat g lat.bottom lat.bottom p end × Flows lat end o

-- Where the end label flows to the observer, seeing the end too shows no more: the same counts hold.
pub record SharpEnd {E M L : Type 0} (v : Env E) (order : Order) (serves : E → Type 0) (g ls : ℕ → ℕ) (image : List Instr) (typed : Marked) (p : Todo M L) :
    Type 0 where
  pub halted : (o : ℕ) → o < order.size → EndsLow (lattice_of order) g typed o → (t : ℕ) → 0 < t
      → FewHalted v order serves g ls image p o t (seen_to_end v (lattice_of order) g image o t)
  pub cut : (o : ℕ) → o < order.size → EndsLow (lattice_of order) g typed o → (t : ℕ) → 0 < t
      → FewCut v order serves g ls image p o t (seen_to_end v (lattice_of order) g image o t)
  -- so does the count by shared time, of runs that halt
  pub shared : (o : ℕ) → o < order.size → EndsLow (lattice_of order) g typed o → (t : ℕ) → 0 < t
      → FewShared v order serves g ls image p o t (seen_to_end v (lattice_of order) g image o t)

abbrev pub SharpEndAll : {E : Type 0} → Env E → (Order → E → Type 0) → Type 0
SharpEndAll v serves = (order : Order) (g ls : ℕ → ℕ) (image : List Instr) (p : Marked) → IsCompiled order g ls image p
    → SharpEnd v order (serves order) g ls image p p

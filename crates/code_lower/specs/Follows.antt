-- The code does what the program does.
use Rattle.std.specs.Prelude.{◌≡◌, ℕ, List, [], ◌∷◌, ◌++◌, true}
use Rattle.env_contract.specs.Env.{Env}
use Rattle.label_lattice.specs.Lattice.{Lattice}
use Rattle.mit_syntax.specs.Todo.{Todo, Marked}
use Rattle.source_meaning.specs.Source.{Note, Assigned, Started, notes_of, HasEnded}
use Rattle.label_code.specs.Machine.{Event, Wrote, Began, Ended}
use Rattle.label_code.specs.Run.{Start, run_from}
use Rattle.label_code.specs.declared.code.Instr.{Instr}
use Rattle.code_lower.specs.Layout.{IsImage}

-- what a log tells without cycles
abbrev pub told : List Event → List Note
told [] = []
told (Wrote x n c ∷ es) = Assigned x n ∷ told es
told (Began k c ∷ es) = Started k ∷ told es
told (Ended k c ∷ es) = told es

-- the code does what the program does, in its order, for any number of cycles
pub record KeepsOrder {E M L : Type 0} (v : Env E) (image : List Instr) (p : Todo M L) : Type 0 where
  pub follows : (s : Start E) (t : ℕ) → (n : ℕ)
      × (told (run_from v image t s).core.log ≡ notes_of p s.memory n)
      × ((run_from v image t s).halted ≡ true → HasEnded p s.memory n)
  pub comes : (s : Start E) (n : ℕ) → (t : ℕ) × (later : List Note)
      × (notes_of p s.memory n ++ later ≡ told (run_from v image t s).core.log)
      × (HasEnded p s.memory n → (run_from v image t s).halted ≡ true)

-- every program, accepted or not, in every environment
abbrev pub OrderAll : {E : Type 0} → Env E → Type 0
OrderAll {E} v = (lat : Lattice) (g : ℕ → ℕ) (image : List Instr) (p : Marked) → IsImage lat g image p → KeepsOrder v image p

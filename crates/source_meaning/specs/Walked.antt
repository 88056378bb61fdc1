-- A walker, and what its steps answer.
use Rattle.std.specs.Prelude.{◌≡◌, ℕ, ◌+◌, List, [], ◌∷◌, ◌++◌, ℤ, Option}
use Rattle.label_lattice.specs.declared.label.Label.{Label}
use Rattle.mit_syntax.specs.declared.ast.Command.{Command}
use Rattle.mit_syntax.specs.Todo.{Done}
use Rattle.mit_syntax.specs.Plan.{Written, Plan}
use Rattle.source_meaning.specs.Source.{Note, Assigned, Started, Source, source_act, source_steps, source_start}
use Rattle.source_meaning.specs.Frames.{todo_of}
use Rattle.source_meaning.specs.declared.walk.Walk.{Walk}
use Rattle.source_meaning.specs.declared.walk.Walk.TheVariants.{Assigned as DidAssign, Began, Silent, Ended}

-- the lists of the program in which it stands, what is left of each, the innermost one last; and the memory
pub record Standing : Type 0 where
  pub lists : List (List Command)
  pub memory : List ℤ

-- what an answer tells
abbrev pub told_by : Walk → List Note
told_by (DidAssign x n) = Assigned x n ∷ []
told_by (Began k) = Started k ∷ []
told_by Silent = []
told_by Ended = []

-- the state at which it stands, where so much was told
abbrev pub source_at : Standing → List Note → Source Written (Option Label)
source_at s t = record { todo = todo_of s.lists; memory = s.memory; notes = t }

-- The answer is one step of the meaning, which tells what the answer does. Where nothing is left to do, and only
-- there, it is Ended, and the walker stays.
pub record IsStep (old : Standing) (walk : Walk) (new : Standing) : Type 0 where
  pub step : source_act (todo_of old.lists) old.memory [] ≡ source_at new (told_by walk)
  pub ended : walk ≡ Ended → (todo_of old.lists ≡ Done) × (new ≡ old)
  pub going : todo_of old.lists ≡ Done → walk ≡ Ended

-- a walker after n steps of a run, or where it has ended before, goes on with the next step
abbrev pub StepsGoOn : Type 0
StepsGoOn = (p : Plan) (memory : List ℤ) (n : ℕ) (notes : List Note) (old new : Standing) (walk : Walk) →
    source_steps n (source_start p memory) ≡ source_at old notes → IsStep old walk new →
    source_steps (n + 1) (source_start p memory) ≡ source_at new (notes ++ told_by walk)

-- The text of a run without its time: a line for each assignment, and a last line.
use Rattle.std.specs.Prelude.{◌≡◌, ◌⊎◌, ◌≤◌, ◌<◌, ℕ, ℤ, List, [], ◌∷◌, ◌++◌, Option}
use Rattle.std.specs.Io.KnownBytes.{Appends}
use Rattle.tim_base.specs.Sinks.{AppendsPrefix}
use Rattle.mit_syntax.specs.Declarations.{Declaration}
use Rattle.mit_syntax.specs.Plan.{Plan}
use Rattle.mit_syntax.specs.Program.{Syntax, plan_of}
use Rattle.source_meaning.specs.declared.walk.Walk.{Walk}
use Rattle.source_meaning.specs.declared.walk.Walk.TheVariants.{Assigned as DidAssign, Began, Silent, Ended}
use Rattle.source_meaning.specs.Source.{trace_of, HasEnded}
use Rattle.start_file.specs.Starts.{StartValue}
use Rattle.tool_texts.specs.declared.status.Status.{Status}
use Rattle.tool_texts.specs.declared.status.Status.TheVariants as status
use Rattle.tool_texts.specs.Texts.{ended_line, not_ended_line, value_line, value_lines}

-- the lines of the first n steps
abbrev pub lines_after : Syntax → List ℤ → ℕ → List ℕ
lines_after p memory n = value_lines p.declarations (trace_of (plan_of p) memory n)

-- nothing is left to do after so many of the n steps, and not before
pub record EndsAfter (p : Plan) (memory : List ℤ) (n steps : ℕ) : Type 0 where
  pub within : steps ≤ n
  pub ended : HasEnded p memory steps
  pub least : (k : ℕ) → k < steps → HasEnded p memory k → ⊥

-- whether something is left to do after n steps, and if not, after how many nothing was
abbrev pub IsLastLine : Plan → List ℤ → ℕ → List ℕ → Type 0
IsLastLine p memory n t =
    ((steps : ℕ) × EndsAfter p memory n steps × (t ≡ ended_line steps))
    ⊎ ((HasEnded p memory n → ⊥) × (t ≡ not_ended_line n))

abbrev pub HasMeant : Syntax → StartValue → ℕ → Status → List ℕ → Type 0
HasMeant p start n s t =
    (s ≡ status.Done)
    × (last : List ℕ) × IsLastLine (plan_of p) start.memory n last × (t ≡ lines_after p start.memory n ++ last)

-- ---- one step

abbrev pub text_of_walk : List Declaration → Walk → List ℕ
text_of_walk ds (DidAssign x n) = value_line ds x n
text_of_walk ds (Began k) = []
text_of_walk ds Silent = []
text_of_walk ds Ended = []

-- the line of a step, where it has one
abbrev pub pieces_of_walk : List Declaration → Walk → List (List ℕ)
pieces_of_walk ds (DidAssign x n) = value_line ds x n ∷ []
pieces_of_walk ds (Began k) = []
pieces_of_walk ds Silent = []
pieces_of_walk ds Ended = []

-- an assignment is to one of the first so many variables
abbrev pub IsWalkBelow : ℕ → Walk → Type 0
IsWalkBelow k (DidAssign x n) = x < k
IsWalkBelow k (Began j) = Unit {0}
IsWalkBelow k Silent = Unit {0}
IsWalkBelow k Ended = Unit {0}

-- the lines of some of the n steps were written
pub record WritesSome (old new : Option (List ℕ)) (p : Syntax) (memory : List ℤ) (n : ℕ) : Type 0 where
  pub steps : ℕ
  pub within : steps ≤ n
  pub lines : Appends old new (lines_after p memory steps)

-- a prefix of them was written
pub record BreaksOff (old new : Option (List ℕ)) (p : Syntax) (memory : List ℤ) (n : ℕ) : Type 0 where
  pub steps : ℕ
  pub within : steps ≤ n
  pub prefix : AppendsPrefix old new (lines_after p memory steps)

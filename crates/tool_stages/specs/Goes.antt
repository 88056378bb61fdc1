-- When the stages and the runs of a program go on.
use Rattle.std.specs.Prelude.{◌≤◌, ℕ, List, All, length, Option, Some, None}
use Rattle.std.specs.Bool.{⊤}
use Rattle.label_lattice.specs.declared.label.Label.{Label}
use Rattle.mit_syntax.specs.Program.{Syntax}
use Rattle.timing_types.specs.Labelling.{Labelling}
use Rattle.timing_types.specs.Labelled.{LabelledProgram, HasType}
use Rattle.label_infer.specs.Least.{Labels}
use Rattle.code_lower.specs.Lowered.{lowered}
use Rattle.leak_bound.specs.Records.{Pairwise}
use Rattle.leak_audit.specs.Agreement.{AgreeFor, starts_of}
use Rattle.leak_audit.specs.Surveyed.{shown_by_all}
use Rattle.history_bound.specs.Over.{AnyHistory, history_made}
use Rattle.start_file.specs.Starts.{StartValue}
use Rattle.cycle_machine.specs.declared.end.RunEnd.{RunEnd}
use Rattle.cycle_machine.specs.declared.end.RunEnd.TheVariants.{Halted, Limit}
use Rattle.tool_stages.specs.declared.envs.Environment.{Environment}
use Rattle.tool_stages.specs.Stages.{Reads, Observes, Types}
use Rattle.tool_stages.specs.Envs.{environment, told_in}

-- some labelling types the program
abbrev pub IsTypable : Syntax → Type 0
IsTypable p = (l : Labelling) × Labels p l × HasType (record { program = p; labels = l })

-- some labelling types the program, and the image of its least labelling is not too long
abbrev pub CanLower : Syntax → (LabelledProgram → Type 0) → Type 0
CanLower p Next = IsTypable p × ((q : LabelledProgram) → Types p q → (length (lowered q).instrs ≤ 200000) × Next q)

-- The file's text spells a program, and an observer that is named is one of its labels. There is one such program at
-- most, and one such label.
abbrev pub CanCompile : Option (Option (List ℕ)) → Option (List ℕ) → (Syntax → LabelledProgram → Option Label → Type 0) → Type 0
CanCompile content observer Next =
    (p : Syntax) × Reads content p × (o : Option Label) × Observes p.order observer o × CanLower p (λ q. Next p q o)

-- ---- runs

abbrev pub IsHalted : RunEnd → Type 0
IsHalted (Halted c) = ⊤
IsHalted (Limit c) = ⊥

-- the run of a program's image from a start halts by T
abbrev pub HaltsBy : Environment → ℕ → LabelledProgram → StartValue → Type 0
HaltsBy e t q s = IsHalted (told_in e q.program.order (lowered q) s t).end

-- the starts agree pairwise for an observer
abbrev pub AgreeIn : Environment → LabelledProgram → ℕ → List StartValue → Type 0
AgreeIn e q o ss = Pairwise (AgreeFor (environment e q.program.order) AnyHistory q o) (starts_of history_made q.program.order ss)

-- how many assignments the runs to T show to the observer
abbrev pub shown_in : Environment → LabelledProgram → ℕ → ℕ → List StartValue → ℕ
shown_in e q o t ss = shown_by_all (environment e q.program.order) q o t (starts_of history_made q.program.order ss)

-- they agree, and show few enough
pub record CanCut (e : Environment) (t : ℕ) (q : LabelledProgram) (o : ℕ) (ss : List StartValue) : Type 0 where
  pub agree : AgreeIn e q o ss
  pub few : shown_in e q o t ss ≤ 16777216

-- and all have halted by T
pub record CanBeAudited (e : Environment) (t : ℕ) (q : LabelledProgram) (o : ℕ) (ss : List StartValue) : Type 0 where
  pub cut : CanCut e t q o ss
  pub halt : All (HaltsBy e t q) ss

-- it is so of the observer that is named
abbrev pub OfObserver : (ℕ → Type 0) → Option Label → Type 0
OfObserver P None = ⊤
OfObserver P (Some l) = P l.number

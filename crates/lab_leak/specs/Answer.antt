-- The answer of `leak`: its status and its text, from what the files are told to hold.
use Rattle.std.specs.Prelude.{◌≡◌, ◌⊎◌, ◌++◌, ℕ, List, Bool, Option, Some, None, map}
use Rattle.std.proofs.Common.{inl, inr}
use Rattle.label_lattice.specs.declared.label.Label.{Label}
use Rattle.mit_syntax.specs.Program.{Syntax}
use Rattle.timing_types.specs.Labelled.{LabelledProgram}
use Rattle.label_code.specs.Machine.{Event}
use Rattle.label_code.specs.Shaped.{Code}
use Rattle.start_file.specs.Starts.{StartValue}
use Rattle.history_bound.specs.Over.{history_made}
use Rattle.leak_audit.specs.Agreement.{starts_of}
use Rattle.leak_audit.specs.Surveyed.{sequence_from}
use Rattle.tool_stages.specs.declared.envs.Environment.{Environment}
use Rattle.tool_texts.specs.declared.status.Status.{Status}
use Rattle.tool_texts.specs.declared.status.Status.TheVariants as status
use Rattle.tool_stages.specs.Content.{Content}
use Rattle.tool_stages.specs.Stages.{Then}
use Rattle.tool_stages.specs.Begins.{CanAudit}
use Rattle.tool_stages.specs.Envs.{environment, ReportsIn}
use Rattle.lab_runs.specs.Shown.{Shown, RunsAccepted, RunsRefused, ShowsFrom}
use Rattle.audit_stage.specs.Audited.{AuditStops}
use Rattle.space_stage.specs.Given.{GivenValue, GivenIs, GivenStops}
use Rattle.space_leak.specs.Answer.{CanWalk, SpaceStops, HasClasses, HasSpaceLeak}
use Rattle.space_leak.specs.Text.{IsSpaceText}
use Rattle.lab_leak.specs.Classes.{classes_of_runs}
use Rattle.lab_leak.specs.Text.{IsLeakText, IsOpenText}

-- what an observer sees of the runs from starts, in an environment, up to T
abbrev pub sequences_in : Environment → ℕ → LabelledProgram → ℕ → List StartValue → List (List Event)
sequences_in e t q o ss = map (sequence_from (environment e q.program.order) q o t) (starts_of history_made q.program.order ss)

-- The runs are those of an audit, and stop where and as one does. Their classes are told by what the observer sees.
abbrev pub HasLeak : Environment → ℕ → LabelledProgram → Option Label → List StartValue → Status → List ℕ → Type 0
HasLeak e t q None ss = λ s x. ⊥
HasLeak e t q (Some l) ss =
    Then (AuditStops e t q l ss) (ReportsIn e q l.number t ss) (λ r s x.
    (s ≡ status.Done) × IsLeakText e q l t ss r (classes_of_runs (sequences_in e t q l.number ss)) x)

-- of the starts that a file gives, in a list or as a space
abbrev pub HasTypedLeak : Environment → ℕ → LabelledProgram → Option Label → GivenValue → Status → List ℕ → Type 0
HasTypedLeak e t q o (inl ss) = HasLeak e t q o ss
HasTypedLeak e t q o (inr s) = HasSpaceLeak e t q o s

-- a text below the line that stands before the runs
abbrev pub Below : List ℕ → (List ℕ → Type 0) → List ℕ → Type 0
Below head IsText x = (y : List ℕ) × IsText y × (x ≡ head ++ y)

-- The same of a refused program, which runs by its least labels: its runs are stopped for the same, and of their classes the same is
-- told, below the line of its refusal. What rests on a type is left out.
abbrev pub HasOpenLeak : Environment → ℕ → Shown → Option Label → GivenValue → Status → List ℕ → Type 0
HasOpenLeak e t x None g = λ s y. ⊥
HasOpenLeak e t x (Some l) (inl ss) =
    Then (AuditStops e t x.labelled l ss) (ReportsIn e x.labelled l.number t ss) (λ r s y.
    (s ≡ status.Done) × Below x.head (IsOpenText e x.labelled l t r (classes_of_runs (sequences_in e t x.labelled l.number ss))) y)
HasOpenLeak e t x (Some l) (inr z) =
    Then (SpaceStops e t x.labelled l z) (HasClasses e t x.labelled l.number z) (λ k s y.
    (s ≡ status.Done) × Below x.head (IsSpaceText e x.labelled l t z k) y)

-- of what runs of a program: an accepted one, or a refused one
abbrev pub HasLeakOf : Environment → ℕ → Syntax → Shown → Option Label → GivenValue → Status → List ℕ → Type 0
HasLeakOf e t p x o g s y = (RunsAccepted p x × HasTypedLeak e t x.labelled o g s y) ⊎ (RunsRefused p x × HasOpenLeak e t x o g s y)

-- what that asks of a program with its image
abbrev pub CanLeakOf : LabelledProgram → Label → Code → GivenValue → Type 0
CanLeakOf q l code (inl ss) = CanAudit q l code ss
CanLeakOf q l code (inr s) = CanWalk q l code s

-- The answer of `leak`, where refused programs are asked for and where not, in the order of its refusals, which of a list of
-- starts are those of an audit. `Rises` tells the names whose counts of faults rose.
abbrev pub IsLeakAnswer : (List ℕ → Type 0) → Content → List ℕ → List ℕ → List ℕ → Environment → ℕ → Bool → Status → List ℕ → Type 0
IsLeakAnswer Rises content file starts observer e t refused =
    ShowsFrom refused Rises content file (Some observer) (λ p x o code.
    Then (GivenStops (Rises starts) (content starts) p) (GivenIs (content starts) p) (λ g.
    HasLeakOf e t p x o g))

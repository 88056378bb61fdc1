-- The answer of `why` for an audit: its status and its text, from what the files are told to hold.
use Rattle.std.specs.Prelude.{◌≡◌, ◌<◌, ℕ, List, ◌++◌, length, Option, Some, None, codes}
use Rattle.label_lattice.specs.declared.label.Label.{Label}
use Rattle.mit_syntax.specs.Plan.{count, mitigates}
use Rattle.mit_syntax.specs.Program.{Syntax, plan_of}
use Rattle.timing_types.specs.Labelled.{LabelledProgram}
use Rattle.code_lower.specs.Lowered.{lowered}
use Rattle.start_file.specs.Starts.{StartValue}
use Rattle.leak_audit.specs.declared.report.AuditReport.{AuditReport}
use Rattle.leak_audit.specs.declared.report.AuditFault.{AuditFault}
use Rattle.leak_audit.specs.declared.report.AuditFault.TheVariants.{Disagree, Unfinished, TooMuch, Memory}
use Rattle.tool_texts.specs.declared.status.Status.{Status}
use Rattle.tool_texts.specs.declared.status.Status.TheVariants as status
use Rattle.tool_texts.specs.Texts.{accepted_line, number_line}
use Rattle.tool_texts.specs.Reports.{disagree_line, unfinished_line, events_line}
use Rattle.tool_stages.specs.Content.{Content}
use Rattle.tool_stages.specs.Envs.{ReportsIn, AuditFaultsIn}
use Rattle.tool_stages.specs.Stages.{Then, Reads, Observes, Types, HasImage, StartsAre}
use Rattle.tool_stages.specs.declared.envs.Environment.{Environment}
use Rattle.lab_runs.specs.Labels.{UnnamedStops, observer_option}
use Rattle.lab_why.specs.Answers.{ReasonStops}
use Rattle.lab_why.specs.Faulty.{WhyStops}
use Rattle.lab_why.specs.Starts.{StartsStop}
use Rattle.lab_ready.specs.Budget.{BudgetTold}
use Rattle.lab_ready.specs.Differs.{differs_lines}

-- how many instructions an image may have
unfoldable pub most_instructions : List ℕ
most_instructions = codes "expected at most 200000\n"

-- how many assignments all runs together may show
unfoldable pub most_shown : List ℕ
most_shown = codes "expected at most 16777216\n"

unfoldable pub ready_line : List ℕ
ready_line = codes "ready for an audit: all agree\n"

-- the image of an accepted program is too long
abbrev pub LongStops : LabelledProgram → Status → List ℕ → Type 0
LongStops q status.TooLong t =
    (200000 < length (lowered q).instrs) × (t ≡ number_line (codes "too long: image ") (length (lowered q).instrs) ++ most_instructions)
LongStops q _ t = ⊥

-- From a program to its image, and from an observer's name to a label; then the rest goes on.
abbrev pub Begins : Type 0 → Option (Option (List ℕ)) → List ℕ → (Syntax → LabelledProgram → Option Label → Status → List ℕ → Type 0) → Status → List ℕ → Type 0
Begins Rose content observer Next =
    Then (WhyStops Rose content) (Reads content) (λ p.
    Then (UnnamedStops observer_option p.order (Some observer)) (Observes p.order (Some observer)) (λ o.
    Then (ReasonStops content p) (Types p) (λ q.
    Then (LongStops q) (HasImage q) (λ code. Next p q o))))

-- how an audit ends that is refused
abbrev pub refusal_status : AuditFault → Status
refusal_status (Disagree run what) = status.Disagree
refusal_status (Unfinished run cycle) = status.Unfinished
refusal_status (TooMuch count) = status.TooLong
refusal_status Memory = status.Memory

-- two starts do not agree, a run has not halted, or too much is shown: the tool's own line, and behind it lines on that
abbrev pub FaultTold : Environment → ℕ → LabelledProgram → Label → List StartValue → AuditFault → List ℕ → Type 0
FaultTold e t q l ss (Disagree run what) x = x ≡ disagree_line q.program run what ++ differs_lines q l ss run what
FaultTold e t q l ss (Unfinished run cycle) x =
    (more : List ℕ) × BudgetTold e q l.number ss 4 t more × (x ≡ unfinished_line run cycle ++ more)
FaultTold e t q l ss (TooMuch count) x = x ≡ events_line count ++ most_shown
FaultTold e t q l ss Memory x = ⊥

-- an audit with this budget is refused
abbrev pub RefusalTold : Environment → ℕ → LabelledProgram → Label → List StartValue → Status → List ℕ → Type 0
RefusalTold e t q l ss s x = (f : AuditFault) × AuditFaultsIn e q l.number t ss f × (s ≡ refusal_status f) × FaultTold e t q l ss f x

-- an audit has a report: how many starts there are
abbrev pub ready_text : LabelledProgram → List StartValue → List ℕ
ready_text q ss =
    accepted_line (count (plan_of q.program)) (mitigates (plan_of q.program)) ++ (number_line (codes "starts ") (length ss) ++ ready_line)

-- what is told of an audit of these starts
abbrev pub AuditTold : Environment → ℕ → LabelledProgram → Option Label → List StartValue → Status → List ℕ → Type 0
AuditTold e t q None ss = λ s x. ⊥
AuditTold e t q (Some l) ss = Then (RefusalTold e t q l ss) (ReportsIn e q l.number t ss) (λ r s x. (s ≡ status.Done) × (x ≡ ready_text q ss))

-- what is told of a start file for a program that has an image
abbrev pub IsRest : Type 0 → Option (Option (List ℕ)) → Environment → ℕ → Syntax → LabelledProgram → Option Label → Status → List ℕ → Type 0
IsRest Rose starts e t p q o = Then (StartsStop Rose starts p) (StartsAre starts p) (λ ss. AuditTold e t q o ss)

-- The answer, in the order of its refusals, which is that of an audit. `Rises` tells the names whose counts of faults rose.
abbrev pub IsReadyAnswer : (List ℕ → Type 0) → Content → List ℕ → List ℕ → List ℕ → Environment → ℕ → Status → List ℕ → Type 0
IsReadyAnswer Rises content file starts observer e t =
    Begins (Rises file) (content file) observer (λ p q o. IsRest (Rises starts) (content starts) e t p q o)

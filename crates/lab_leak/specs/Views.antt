-- What is told of a program with its least labels, and of the classes of runs.
use Rattle.std.specs.Prelude.{ℕ, List, Option}
use Rattle.label_lattice.specs.declared.label.Label.{Label}
use Rattle.timing_types.specs.Labelled.{LabelledProgram}
use Rattle.start_file.specs.Starts.{StartValue}
use Rattle.history_bound.specs.Over.{AnyHistory, history_made}
use Rattle.leak_audit.specs.Agreement.{starts_of}
use Rattle.leak_audit.specs.declared.report.AuditReport.{AuditReport}
use Rattle.open_audit.specs.Open.{HasReport}
use Rattle.tool_texts.specs.declared.status.Status.{Status}
use Rattle.tool_stages.specs.declared.envs.Environment.{Environment}
use Rattle.tool_stages.specs.Envs.{environment, ReportsIn}
use Rattle.lab_runs.specs.declared.least.LeastLabelled.{LeastLabelled}
use Rattle.lab_runs.specs.declared.least.LeastLabelled.TheVariants.{Accepted, Refused}
use Rattle.lab_runs.specs.Shown.{Shown, head_line}
use Rattle.space_stage.specs.Given.{GivenValue}
use Rattle.lab_leak.specs.Answer.{HasTypedLeak, HasOpenLeak, sequences_in}
use Rattle.lab_leak.specs.Classes.{classes_of_runs}
use Rattle.lab_leak.specs.Text.{IsOpenText}

-- a refused program, with the line of its refusal
abbrev pub open_shown : LabelledProgram → List ℕ → Shown
open_shown q refusal = record { labelled = q; head = head_line refusal }

-- what is told of a program with its least labels
abbrev pub LeakBy : LeastLabelled → Environment → ℕ → Option Label → GivenValue → Status → List ℕ → Type 0
LeakBy (Accepted typed) e t o g = HasTypedLeak e t typed.labelled o g
LeakBy (Refused q refusal) e t o g = HasOpenLeak e t (open_shown q refusal) o g

-- the classes of the runs from starts, in an environment
abbrev pub HasClassesIn : Environment → LabelledProgram → ℕ → ℕ → List StartValue → List ℕ → Type 0
HasClassesIn e q o t ss = HasReport (environment e q.program.order) AnyHistory q o t (starts_of history_made q.program.order ss)

-- the text of a refused program below its first line, of runs of which there is a report
abbrev pub IsOpenTold : Environment → ℕ → LabelledProgram → Label → List StartValue → List ℕ → Type 0
IsOpenTold e t q l ss x =
    (r : AuditReport) × ReportsIn e q l.number t ss r × IsOpenText e q l t r (classes_of_runs (sequences_in e t q l.number ss)) x

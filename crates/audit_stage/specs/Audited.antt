-- What an audit of the runs of a program stops with.
use Rattle.std.specs.Prelude.{◌≡◌, ℕ, List}
use Rattle.label_lattice.specs.declared.label.Label.{Label}
use Rattle.timing_types.specs.Labelled.{LabelledProgram}
use Rattle.start_file.specs.Starts.{StartValue}
use Rattle.leak_audit.specs.declared.what.What.{What}
use Rattle.leak_audit.specs.declared.report.AuditFault.TheVariants.{Disagree, Unfinished, TooMuch}
use Rattle.tool_stages.specs.declared.envs.Environment.{Environment}
use Rattle.tool_texts.specs.declared.status.Status.{Status}
use Rattle.tool_texts.specs.declared.status.Status.TheVariants as status
use Rattle.tool_texts.specs.Reports.{disagree_line, unfinished_line, events_line}
use Rattle.tool_stages.specs.Envs.{AuditFaultsIn}

-- two starts do not agree, a run has not halted, or too much is shown
abbrev pub AuditStops : Environment → ℕ → LabelledProgram → Label → List StartValue → Status → List ℕ → Type 0
AuditStops e t q l ss status.Disagree x =
    (run : ℕ) × (what : What) × AuditFaultsIn e q l.number t ss (Disagree run what) × (x ≡ disagree_line q.program run what)
AuditStops e t q l ss status.Unfinished x = (run : ℕ) × (cycle : ℕ) × AuditFaultsIn e q l.number t ss (Unfinished run cycle) × (x ≡ unfinished_line run cycle)
AuditStops e t q l ss status.TooLong x = (count : ℕ) × AuditFaultsIn e q l.number t ss (TooMuch count) × (x ≡ events_line count)
AuditStops e t q l ss _ x = ⊥

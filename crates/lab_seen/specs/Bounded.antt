-- How many different fields there are, of any number of runs, from any number of files.
use Rattle.std.specs.Prelude.{◌≤◌, ◌<◌, ◌^◌, ℕ, List, Bool, map}
use Rattle.label_lattice.specs.declared.label.Label.{Label}
use Rattle.mit_syntax.specs.Program.{Syntax}
use Rattle.mit_parser.specs.Words.{Told}
use Rattle.mit_parser.specs.Spells.{IsProgram}
use Rattle.timing_types.specs.Labelled.{LabelledProgram}
use Rattle.code_lower.specs.Lowered.{lowered}
use Rattle.history_bound.specs.Over.{history_made}
use Rattle.start_file.specs.Starts.{StartValue}
use Rattle.leak_bound.specs.Records.{Tests, distinct_count}
use Rattle.leak_bound.specs.Sound.{bound, most_ended}
use Rattle.leak_audit.specs.Agreement.{starts_of}
use Rattle.leak_audit.specs.Surveyed.{relevant_for}
use Rattle.cut_audit.specs.declared.report.CutReport.{CutReport}
use Rattle.seen_line.specs.Field.{seen_text}
use Rattle.tool_stages.specs.declared.envs.Environment.{Environment}
use Rattle.tool_stages.specs.Stages.{Types}
use Rattle.tool_stages.specs.Envs.{IsPartitioned, environment, told_in, CutReportsIn}
use Rattle.tool_stages.specs.Goes.{AgreeIn}

-- the field of what an observer sees of the run of a program's image from a start, up to T
abbrev pub field_in : Environment → ℕ → LabelledProgram → Label → StartValue → List ℕ
field_in e t q l s = seen_text q l (told_in e q.program.order (lowered q) s t)

-- the greatest number of relevant mitigations that ended by T in one of the runs
abbrev pub most_ended_in : Environment → ℕ → LabelledProgram → ℕ → List StartValue → ℕ
most_ended_in e t q o ss = most_ended (environment e q.program.order) (lowered q).instrs (relevant_for q o) t (starts_of history_made q.program.order ss)

-- Of each program that words spell, with its least labelling, in each environment of a machine with partitions,
-- for each observer and each T of at least 1: of starts that agree pairwise, however many, there are at most as many different fields as the bound says.
abbrev pub FieldsAreFew : Type 0
FieldsAreFew =
    (words : List Told) (p : Syntax) (q : LabelledProgram) → IsProgram words p → Types p q → (e : Environment) (t : ℕ) → IsPartitioned e → 0 < t → (l : Label)
    → l.number < p.order.size →
    (ss : List StartValue) → AgreeIn e q l.number ss → (same : List ℕ → List ℕ → Bool) → Tests same →
    distinct_count same (map (field_in e t q l) ss) ≤ bound q.program.order l.number t (most_ended_in e t q l.number ss)

-- The same with the bound that `cut` reports.
abbrev pub FieldsAreWithinCut : Type 0
FieldsAreWithinCut =
    (words : List Told) (p : Syntax) (q : LabelledProgram) → IsProgram words p → Types p q → (e : Environment) (t : ℕ) → IsPartitioned e → 0 < t → (l : Label)
    → l.number < p.order.size →
    (ss : List StartValue) (r : CutReport) → CutReportsIn e q l.number t ss r → (same : List ℕ → List ℕ → Bool) → Tests same →
    distinct_count same (map (field_in e t q l) ss) ≤ r.measures.base ^ r.measures.exponent

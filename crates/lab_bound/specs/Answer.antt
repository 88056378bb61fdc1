-- The answer of `bound`: its status and its text, from what the files are told to hold.
use Rattle.std.specs.Prelude.{◌≡◌, ℕ, List, ◌++◌, Option, Some, None, codes}
use Rattle.label_lattice.specs.declared.label.Label.{Label}
use Rattle.label_lattice.specs.Order.{Order}
use Rattle.part_tlb.specs.declared.bank.Sharing.{Sharing}
use Rattle.part_tlb.specs.declared.bank.Sharing.TheVariants.{Partitioned, Shared}
use Rattle.timing_types.specs.Labelled.{LabelledProgram}
use Rattle.start_file.specs.Starts.{StartValue}
use Rattle.sharp_count.specs.declared.count.LevelRuns.{LevelRuns}
use Rattle.leak_audit.specs.declared.report.AuditReport.{AuditReport}
use Rattle.level_counts.specs.Begun.{AreTold, memories_of}
use Rattle.tool_stages.specs.declared.envs.Environment.{Environment}
use Rattle.tool_texts.specs.declared.status.Status.{Status}
use Rattle.tool_texts.specs.declared.status.Status.TheVariants as status
use Rattle.tool_texts.specs.Texts.{number_line}
use Rattle.tool_texts.specs.Reports.{label_line, class_lines, audit_lines}
use Rattle.tool_stages.specs.Content.{Content}
use Rattle.tool_stages.specs.Stages.{Then}
use Rattle.tool_stages.specs.Envs.{hardware_of, ReportsIn}
use Rattle.machine_stage.specs.Lines.{machine_head, no_bound_line}
use Rattle.lab_runs.specs.Labels.{NamesAndPrepares}
use Rattle.audit_stage.specs.Audited.{AuditStops}
use Rattle.lab_bound.specs.Text.{IsBoundText, IsSharedText, IsOwnText, IsEndText}

-- On a machine with partitions: the lines of the audit's report, then what is told of the levels and the sharp count, then the
-- count by shared time and the one by own first predictions, and then whether the end is counted.
abbrev pub HasCounts : LabelledProgram → Label → ℕ → List StartValue → AuditReport → List ℕ → Type 0
HasCounts q l t ss r x =
    (levels : List LevelRuns) × AreTold q l.number (memories_of ss) levels
    × (rest : List ℕ) × IsBoundText q.program.order l.number t levels rest
    × (line : List ℕ) × IsSharedText q l.number t levels line
    × (own : List ℕ) × IsOwnText q l.number t (memories_of ss) own
    × (last : List ℕ) × IsEndText q l.number last × (x ≡ (((audit_lines q.program.order l t r ++ rest) ++ line) ++ own) ++ last)

-- how it begins where all labels share the banks: the runs, the observer and the budget
abbrev pub shown_head : Order → Label → ℕ → AuditReport → List ℕ
shown_head o l t r = number_line (codes "runs ") r.runs ++ (label_line (codes "observer ") o l ++ number_line (codes "budget ") t)

-- there what the runs show is told, and that no bound is
abbrev pub shown_lines : Order → Label → ℕ → AuditReport → List ℕ
shown_lines o l t r =
    shown_head o l t r ++ (number_line (codes "mitigations ") r.mitigations ++ (number_line (codes "distinct ") r.measures.distinct
    ++ (no_bound_line ++ class_lines 1 r.measures.classes.items)))

-- what is told, by how the machine is shared
abbrev pub TellsBy : Sharing → LabelledProgram → Label → ℕ → List StartValue → AuditReport → List ℕ → Type 0
TellsBy Partitioned q l t ss r x = HasCounts q l t ss r x
TellsBy Shared q l t ss r x = x ≡ shown_lines q.program.order l t r

-- the runs are those of an audit; of a machine that a file describes, how it is shared stands in front
abbrev pub HasBound : Environment → ℕ → LabelledProgram → Option Label → List StartValue → Status → List ℕ → Type 0
HasBound e t q None ss = λ s x. ⊥
HasBound e t q (Some l) ss =
    Then (AuditStops e t q l ss) (ReportsIn e q l.number t ss) (λ r s x.
    (s ≡ status.Done) × (told : List ℕ) × TellsBy (hardware_of e).sharing q l t ss r told × (x ≡ machine_head e ++ told))

-- The answer of `bound`, in the order of its refusals, which are those of an audit. `Rises` tells the names whose counts of
-- faults rose.
abbrev pub IsBoundAnswer : (List ℕ → Type 0) → Content → List ℕ → List ℕ → List ℕ → Environment → ℕ → Status → List ℕ → Type 0
IsBoundAnswer Rises content file starts observer e t =
    NamesAndPrepares Rises content file observer (Rises starts) (content starts) (λ p q o code ss.
    HasBound e t q o ss)

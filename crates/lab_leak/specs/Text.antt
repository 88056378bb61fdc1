-- The text of `leak`.
use Rattle.std.specs.Prelude.{◌≡◌, ℕ, List, ◌++◌, Option, Some, None, codes, decimal}
use Rattle.label_lattice.specs.declared.label.Label.{Label}
use Rattle.label_lattice.specs.Order.{Order}
use Rattle.timing_types.specs.Labelled.{LabelledProgram}
use Rattle.sharp_count.specs.declared.count.LevelRuns.{LevelRuns}
use Rattle.sharp_count.specs.Count.{fitting}
use Rattle.leak_audit.specs.declared.report.AuditReport.{AuditReport}
use Rattle.leak_classes.specs.Classes.{Classes}
use Rattle.leak_numbers.specs.Numbers.{AreNumbers}
use Rattle.tool_texts.specs.Texts.{number_line}
use Rattle.tool_texts.specs.Reports.{label_line, bound_line}
use Rattle.lab_bound.specs.Text.{sharp_of, IsSharedText, IsOwnText}
use Rattle.lab_bound.specs.Answer.{shown_head}
use Rattle.part_tlb.specs.declared.bank.Sharing.{Sharing}
use Rattle.part_tlb.specs.declared.bank.Sharing.TheVariants.{Partitioned, Shared}
use Rattle.start_file.specs.Starts.{StartValue}
use Rattle.level_counts.specs.Begun.{AreTold, memories_of}
use Rattle.tool_stages.specs.declared.envs.Environment.{Environment}
use Rattle.tool_stages.specs.Envs.{hardware_of}
use Rattle.machine_stage.specs.Lines.{machine_head, no_bound_line}
use Rattle.space_leak.specs.Text.{class_lines, sizes_of}

-- `sharp N`; N is told where it is below 2^128
abbrev pub sharp_line : Option ℕ → List ℕ
sharp_line None = codes "sharp 2^128 or more\n"
sharp_line (Some n) = codes "sharp " ++ (decimal n ++ codes "\n")

-- the number of the runs, the observer, the budget, the bound of the audit, and the sharp count
abbrev pub head_lines : Order → Label → ℕ → AuditReport → Option ℕ → List ℕ
head_lines order l t r sharp =
    number_line (codes "runs ") r.runs ++ (label_line (codes "observer ") order l
    ++ (number_line (codes "budget ") t ++ (bound_line r.measures.base r.measures.exponent ++ sharp_line sharp)))

-- On a machine with partitions: the first lines, of an audit's report and what is told of the levels. The lines of the counts
-- by shared time and by own first predictions, if there are any, stand below that of the sharp count.
abbrev pub HasCounts : LabelledProgram → Label → ℕ → List StartValue → AuditReport → List ℕ → Type 0
HasCounts q l t ss r x =
    (levels : List LevelRuns) × AreTold q l.number (memories_of ss) levels
    × (line : List ℕ) × IsSharedText q l.number t levels line
    × (own : List ℕ) × IsOwnText q l.number t (memories_of ss) own × (x ≡ (head_lines q.program.order l t r (fitting (sharp_of t levels)) ++ line) ++ own)

-- where all labels share the banks: that no bound is told
abbrev pub shown_lines : Order → Label → ℕ → AuditReport → List ℕ
shown_lines order l t r = shown_head order l t r ++ no_bound_line

-- the first lines, by how the machine is shared
abbrev pub TopBy : Sharing → LabelledProgram → Label → ℕ → List StartValue → AuditReport → List ℕ → Type 0
TopBy Partitioned q l t ss r x = HasCounts q l t ss r x
TopBy Shared q l t ss r x = x ≡ shown_lines q.program.order l t r

-- What is told of the classes of so many runs: what they tell of the start, and a line for each. Nothing of it rests on a type.
abbrev pub IsClassText : LabelledProgram → ℕ → Classes → List ℕ → Type 0
IsClassText q runs k x =
    (numbers : List ℕ) × AreNumbers runs (sizes_of k) numbers × (x ≡ numbers ++ class_lines q.program.declarations k.seen k.firsts)

-- The whole text of an accepted program, of an audit's report and classes. Of a machine that a file describes, how it is
-- shared stands in front.
abbrev pub IsLeakText : Environment → LabelledProgram → Label → ℕ → List StartValue → AuditReport → Classes → List ℕ → Type 0
IsLeakText e q l t ss r k x =
    (top : List ℕ) × TopBy (hardware_of e).sharing q l t ss r top
    × (rest : List ℕ) × IsClassText q r.runs k rest × (x ≡ (machine_head e ++ top) ++ rest)

-- The text of a refused one: its runs, the observer, the budget and the classes, however the machine is shared, and no count
-- that rests on a type.
abbrev pub IsOpenText : Environment → LabelledProgram → Label → ℕ → AuditReport → Classes → List ℕ → Type 0
IsOpenText e q l t r k x =
    (rest : List ℕ) × IsClassText q r.runs k rest × (x ≡ (machine_head e ++ shown_head q.program.order l t r) ++ rest)

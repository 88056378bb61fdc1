-- What a command counts is within the bound that it prints.
use Rattle.std.specs.Prelude.{◌≤◌, ◌<◌, ◌+◌, ◌^◌, ℕ, List}
use Rattle.std.specs.List.{AllZip}
use Rattle.mit_syntax.specs.Program.{Syntax}
use Rattle.mit_parser.specs.Words.{Told}
use Rattle.mit_parser.specs.Spells.{IsProgram}
use Rattle.timing_types.specs.Labelled.{LabelledProgram}
use Rattle.start_file.specs.Starts.{StartValue}
use Rattle.leak_bound.specs.Digits.{digits}
use Rattle.leak_bound.specs.Records.{distinct_count}
use Rattle.leak_audit.specs.declared.report.AuditReport.{AuditReport}
use Rattle.cut_audit.specs.declared.report.CutReport.{CutReport}
use Rattle.black_box.specs.Audits.{same_cycles}
use Rattle.black_box.specs.Outcomes.{Outcome, IsOutcome}
use Rattle.tool_words.specs.declared.words.EnvName.{EnvName}
use Rattle.tool_stages.specs.declared.envs.Environment.TheVariants.{Named}
use Rattle.tool_stages.specs.Stages.{Types}
use Rattle.tool_stages.specs.Envs.{ReportsIn, CutReportsIn}
use Rattle.tool_texts.specs.Reports.{all_released}

-- of each program that words spell, with its least labelling, the number of different sequences in each report up to T,
-- which is at least 1
abbrev pub AuditsAreWithin : EnvName → ℕ → Type 0
AuditsAreWithin e t = 0 < t →
    (words : List Told) (p : Syntax) (q : LabelledProgram) (o : ℕ) (ss : List StartValue) (r : AuditReport) → IsProgram words p → Types p q → o < p.order.size →
    ReportsIn (Named e) q o t ss r → r.measures.distinct ≤ r.measures.base ^ r.measures.exponent

-- the same of runs that may not have halted
abbrev pub CutsAreWithin : EnvName → ℕ → Type 0
CutsAreWithin e t = 0 < t →
    (words : List Told) (p : Syntax) (q : LabelledProgram) (o : ℕ) (ss : List StartValue) (r : CutReport) → IsProgram words p → Types p q → o < p.order.size →
    CutReportsIn (Named e) q o t ss r → r.measures.distinct ≤ r.measures.base ^ r.measures.exponent

-- the number of different lists of releases, of all runs of a file of ready cycles
abbrev pub ReleasesAreWithin : ℕ → ℕ → Type 0
ReleasesAreWithin first t = 0 < first → 0 < t →
    (runs : List (List ℕ)) (outcomes : List Outcome) → AllZip (IsOutcome first t) runs outcomes →
    distinct_count same_cycles (all_released outcomes) ≤ (t + 1) ^ digits t

-- The counts of a text, one below the other.
use Rattle.std.specs.Prelude.{◌≤◌, ◌<◌, ◌^◌, ℕ, List, length}
use Rattle.mit_syntax.specs.Program.{Syntax}
use Rattle.mit_parser.specs.Words.{Told}
use Rattle.mit_parser.specs.Spells.{IsProgram}
use Rattle.timing_types.specs.Labelled.{LabelledProgram}
use Rattle.start_file.specs.Starts.{StartValue}
use Rattle.sharp_count.specs.declared.count.LevelRuns.{LevelRuns}
use Rattle.sharp_count.specs.Shared.{shared_of}
use Rattle.own_firsts.specs.Count.{own_of}
use Rattle.leak_audit.specs.declared.report.AuditReport.{AuditReport}
use Rattle.level_counts.specs.Begun.{AreTold, memories_of}
use Rattle.level_counts.specs.Listed.{AreListed}
use Rattle.tool_stages.specs.declared.envs.Environment.{Environment}
use Rattle.tool_stages.specs.Stages.{Types}
use Rattle.tool_stages.specs.Envs.{IsPartitioned, ReportsIn}
use Rattle.lab_bound.specs.Text.{sharp_of, AreApart}
use Rattle.lab_leak.specs.Answer.{sequences_in}
use Rattle.lab_leak.specs.Classes.{AreTallied, classes_of_runs}

-- of runs of which there is a report, and of whose levels this is told
pub record AreOrdered (e : Environment) (q : LabelledProgram) (o t : ℕ) (ss : List StartValue) (r : AuditReport) (levels : List LevelRuns) : Type 0 where
  -- the classes are those of the runs
  pub tallied : AreTallied (sequences_in e t q o ss)
  -- there are at most as many classes as the sharp count says
  pub sharp : length (classes_of_runs (sequences_in e t q o ss)).seen ≤ sharp_of t levels
  -- where the count by shared time is told, there are at most as many as it says
  pub shared : AreApart q o → length (classes_of_runs (sequences_in e t q o ss)).seen ≤ shared_of t levels
  -- which is at most the sharp count
  pub within : shared_of t levels ≤ sharp_of t levels
  -- so it is with the count by own first predictions
  pub own : (firsts : List (List ℕ)) → AreListed q o (memories_of ss) firsts →
      (AreApart q o → length (classes_of_runs (sequences_in e t q o ss)).seen ≤ own_of t firsts) × (own_of t firsts ≤ sharp_of t levels)
  -- and the sharp count is at most the bound
  pub bound : sharp_of t levels ≤ r.measures.base ^ r.measures.exponent

-- so it is on a machine with partitions of each program that words spell, with its least labelling, up to each T of at
-- least 1
abbrev pub NumbersAreOrdered : Environment → ℕ → Type 0
NumbersAreOrdered e t = IsPartitioned e → 0 < t →
    (words : List Told) (p : Syntax) (q : LabelledProgram) (o : ℕ) (ss : List StartValue) (r : AuditReport) (levels : List LevelRuns) → IsProgram words p
    → Types p q → o < p.order.size →
    ReportsIn e q o t ss r → AreTold q o (memories_of ss) levels → AreOrdered e q o t ss r levels

abbrev pub AllAreOrdered : Type 0
AllAreOrdered = (e : Environment) (t : ℕ) → NumbersAreOrdered e t

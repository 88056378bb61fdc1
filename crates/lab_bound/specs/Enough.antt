-- What the sharp count bounds, and the counts by shared time and by own first predictions.
use Rattle.std.specs.Prelude.{◌≡◌, ◌≤◌, ◌<◌, ◌^◌, ℕ, List, Bool, Some}
use Rattle.mit_syntax.specs.Program.{Syntax, plan_of}
use Rattle.mit_parser.specs.Words.{Told}
use Rattle.mit_parser.specs.Spells.{IsProgram}
use Rattle.timing_types.specs.Labelled.{LabelledProgram, order_of, labels_of, levels_of}
use Rattle.label_code.specs.Machine.{Event}
use Rattle.code_lower.specs.Lowered.{lowered}
use Rattle.start_file.specs.Starts.{StartValue}
use Rattle.leak_bound.specs.Records.{Each, Tests}
use Rattle.sharp_count.specs.declared.count.LevelRuns.{LevelRuns}
use Rattle.sharp_count.specs.Count.{fitting}
use Rattle.sharp_count.specs.Levels.{counts_of}
use Rattle.sharp_count.specs.Shared.{shared_of}
use Rattle.sharp_bound.specs.Sharp.{BeginsEach}
use Rattle.sharp_bound.specs.End.{seen_to_end}
use Rattle.sharp_bound.specs.Guess.{FewShown}
use Rattle.history_bound.specs.Over.{history_made}
use Rattle.own_firsts.specs.Count.{own_of}
use Rattle.leak_audit.specs.Agreement.{starts_of}
use Rattle.leak_audit.specs.Sequences.{same_sequence}
use Rattle.leak_audit.specs.Surveyed.{sequence_from}
use Rattle.leak_audit.specs.declared.report.AuditReport.{AuditReport}
use Rattle.level_counts.specs.Begun.{AreTold, memories_of}
use Rattle.level_counts.specs.Listed.{AreListed}
use Rattle.tool_stages.specs.declared.envs.Environment.{Environment}
use Rattle.tool_stages.specs.Stages.{Types}
use Rattle.tool_stages.specs.Envs.{IsPartitioned, environment, ReportsIn}
use Rattle.lab_bound.specs.Text.{sharp_of, AreApart, CountsEnd}

-- In an environment the runs from starts show at most n different sequences up to T, and whoever sees one of them
-- guesses the start right at most n times as often.
abbrev pub FewIn : Environment → LabelledProgram → ℕ → ℕ → List StartValue → ℕ → Type 0
FewIn e q o t ss n = FewShown (sequence_from (environment e q.program.order) q o t) same_sequence (starts_of history_made q.program.order ss) n

-- The same of who sees the end too: at most n different pairs of a sequence and the cycle at which the run has ended. Two
-- pairs may be told apart by any test of equality.
abbrev pub FewToEndIn : Environment → LabelledProgram → ℕ → ℕ → List StartValue → ℕ → Type 0
FewToEndIn e q o t ss n =
    (same : List Event × List ℕ → List Event × List ℕ → Bool) → Tests same →
    FewShown (seen_to_end (environment e q.program.order) (order_of q) (labels_of q) (lowered q).instrs o t) same (starts_of history_made q.program.order ss) n

-- the numbers that are told of the levels bound what the runs from starts show
pub record Bounds (e : Environment) (q : LabelledProgram) (o t : ℕ) (ss : List StartValue) (levels : List LevelRuns) : Type 0 where
  -- the sharp count bounds the runs
  pub few : FewIn e q o t ss (sharp_of t levels)
  -- where the end is told as counted, it bounds what is seen of the runs with their ends
  pub ended : CountsEnd q o → FewToEndIn e q o t ss (sharp_of t levels)
  -- where the count by shared time is told, it bounds the runs, and with their ends where these are told as counted
  pub shared : AreApart q o → FewIn e q o t ss (shared_of t levels)
  pub shared_ended : AreApart q o → CountsEnd q o → FewToEndIn e q o t ss (shared_of t levels)

-- so does the count by own first predictions, where these are listed and it is told
pub record BoundsOwn (e : Environment) (q : LabelledProgram) (o t : ℕ) (ss : List StartValue) (firsts : List (List ℕ)) : Type 0 where
  pub few : AreApart q o → FewIn e q o t ss (own_of t firsts)
  pub ended : AreApart q o → CountsEnd q o → FewToEndIn e q o t ss (own_of t firsts)

-- of runs of which there is a report, and of whose levels this is told
pub record IsEnough (e : Environment) (q : LabelledProgram) (o t : ℕ) (ss : List StartValue) (r : AuditReport) (levels : List LevelRuns) : Type 0 where
  -- each run, not the first alone, begins as many relevant mitigations of each level as are told
  pub begun : Each (λ m. BeginsEach (order_of q) (labels_of q) (levels_of q) o (plan_of q.program) m (counts_of levels)) (memories_of ss)
  -- the numbers bound what the runs show
  pub bounds : Bounds e q o t ss levels
  -- a number that is told is at least as great as the number of different sequences in the report
  pub counted : (n : ℕ) → fitting (sharp_of t levels) ≡ Some n → r.measures.distinct ≤ n
  -- the count by shared time is at most the sharp count
  pub shared_within : shared_of t levels ≤ sharp_of t levels
  -- and what is listed of the runs gives a count by own first predictions that bounds them, and is at most the sharp count
  pub own : (firsts : List (List ℕ)) → AreListed q o (memories_of ss) firsts → BoundsOwn e q o t ss firsts × (own_of t firsts ≤ sharp_of t levels)
  -- the sharp count is at most the bound of the report
  pub within : sharp_of t levels ≤ r.measures.base ^ r.measures.exponent

-- so it is on a machine with partitions of each program that words spell, with its least labelling, up to each T of at
-- least 1
abbrev pub NumbersAreEnough : Environment → ℕ → Type 0
NumbersAreEnough e t = IsPartitioned e → 0 < t →
    (words : List Told) (p : Syntax) (q : LabelledProgram) (o : ℕ) (ss : List StartValue) (r : AuditReport) (levels : List LevelRuns) → IsProgram words p
    → Types p q → o < p.order.size →
    ReportsIn e q o t ss r → AreTold q o (memories_of ss) levels → IsEnough e q o t ss r levels

abbrev pub AllAreEnough : Type 0
AllAreEnough = (e : Environment) (t : ℕ) → NumbersAreEnough e t

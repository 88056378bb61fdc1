-- What the numbers of a text of `bound` say for any weights of the starts, and any question about them.
use Rattle.std.specs.Prelude.{ℕ, ◌<◌, List, ◌∷◌, ◌++◌, Bool}
use Rattle.mit_syntax.specs.Program.{Syntax}
use Rattle.mit_parser.specs.Words.{Told}
use Rattle.mit_parser.specs.Spells.{IsProgram}
use Rattle.timing_types.specs.Labelled.{LabelledProgram, order_of, labels_of}
use Rattle.label_code.specs.Machine.{Event}
use Rattle.code_lower.specs.Lowered.{lowered}
use Rattle.leak_bound.specs.Records.{Tests}
use Rattle.sharp_count.specs.declared.count.LevelRuns.{LevelRuns}
use Rattle.sharp_count.specs.Shared.{shared_of}
use Rattle.sharp_bound.specs.End.{seen_to_end}
use Rattle.history_bound.specs.Over.{history_made}
use Rattle.gain_bound.specs.Worth.{FewWorth}
use Rattle.start_file.specs.Starts.{StartValue}
use Rattle.leak_audit.specs.Agreement.{starts_of}
use Rattle.leak_audit.specs.Sequences.{same_sequence}
use Rattle.leak_audit.specs.Surveyed.{sequence_from}
use Rattle.leak_audit.specs.declared.report.AuditReport.{AuditReport}
use Rattle.level_counts.specs.Begun.{AreTold, memories_of}
use Rattle.tool_stages.specs.declared.envs.Environment.{Environment}
use Rattle.tool_stages.specs.Stages.{Types}
use Rattle.tool_stages.specs.Envs.{IsPartitioned, environment, ReportsIn}
use Rattle.lab_bound.specs.Text.{sharp_of, AreApart, CountsEnd}
use Rattle.lab_bound.specs.Others.{AreOthers}

-- In an environment the sequences that the runs from starts show up to T are worth at most n times the best gain, of whatever
-- actions A, and at most log2 n bits.
abbrev pub WorthIn : Type 0 → Environment → LabelledProgram → ℕ → ℕ → List StartValue → ℕ → Type 0
WorthIn A e q o t ss n =
    FewWorth A (sequence_from (environment e q.program.order) q o t) same_sequence (starts_of history_made q.program.order ss) n

-- the same of the pairs of a sequence and the cycle at which the run has ended, told apart by any test of equality
abbrev pub WorthToEndIn : Type 0 → Environment → LabelledProgram → ℕ → ℕ → List StartValue → ℕ → Type 0
WorthToEndIn A e q o t ss n =
    (same : List Event × List ℕ → List Event × List ℕ → Bool) → Tests same →
    FewWorth A (seen_to_end (environment e q.program.order) (order_of q) (labels_of q) (lowered q).instrs o t) same
    (starts_of history_made q.program.order ss) n

-- what the numbers that are told of the levels are worth
pub record AreWorth (A : Type 0) (e : Environment) (q : LabelledProgram) (o t : ℕ) (ss : List StartValue) (levels : List LevelRuns) : Type 0 where
  pub sharp : WorthIn A e q o t ss (sharp_of t levels)
  pub ended : CountsEnd q o → WorthToEndIn A e q o t ss (sharp_of t levels)
  pub shared : AreApart q o → WorthIn A e q o t ss (shared_of t levels)
  pub shared_ended : AreApart q o → CountsEnd q o → WorthToEndIn A e q o t ss (shared_of t levels)

-- On a machine with partitions, of each program that words spell, with its least labelling, up to each T of at least 1: of the
-- starts of which there is a report
abbrev pub ListedAreWorth : Type 0 → Type 0
ListedAreWorth A = (e : Environment) (t : ℕ) → IsPartitioned e → 0 < t →
    (words : List Told) (p : Syntax) (q : LabelledProgram) (o : ℕ) (ss : List StartValue) (r : AuditReport) (levels : List LevelRuns) → IsProgram words p
    → Types p q → o < p.order.size →
    ReportsIn e q o t ss r → AreTold q o (memories_of ss) levels → AreWorth A e q o t ss levels

-- of these, of which there is one at least, and any others together
abbrev pub AllAreWorth : Type 0 → Type 0
AllAreWorth A = (e : Environment) (t : ℕ) → IsPartitioned e → 0 < t →
    (words : List Told) (p : Syntax) (q : LabelledProgram) (o : ℕ) (s : StartValue) (ss : List StartValue) (r : AuditReport) (levels : List LevelRuns)
    → IsProgram words p → Types p q → o < p.order.size →
    ReportsIn e q o t (s ∷ ss) r → AreTold q o (memories_of (s ∷ ss)) levels →
    (others : List StartValue) → AreOthers e q o t (s ∷ ss) levels others → AreWorth A e q o t ((s ∷ ss) ++ others) levels

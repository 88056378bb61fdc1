-- What the numbers of a text say of starts that its file does not list.
use Rattle.std.specs.Prelude.{◌<◌, ◌≤◌, ◌∷◌, ◌++◌, ℕ, List, All}
use Rattle.mit_syntax.specs.Program.{Syntax, plan_of}
use Rattle.mit_parser.specs.Words.{Told}
use Rattle.mit_parser.specs.Spells.{IsProgram}
use Rattle.timing_types.specs.Labelled.{LabelledProgram, order_of, labels_of, levels_of}
use Rattle.start_file.specs.Starts.{StartValue}
use Rattle.sharp_count.specs.declared.count.LevelRuns.{LevelRuns}
use Rattle.sharp_count.specs.Levels.{told_of}
use Rattle.sharp_bound.specs.Sharp.{relevant_at}
use Rattle.leak_audit.specs.declared.report.AuditReport.{AuditReport}
use Rattle.own_firsts.specs.Count.{many_at, first_at}
use Rattle.level_counts.specs.Begun.{AreTold, PredictedIn, memories_of}
use Rattle.level_counts.specs.Listed.{PredictedAtIn, AreListed}
use Rattle.tool_stages.specs.declared.envs.Environment.{Environment}
use Rattle.tool_stages.specs.Stages.{Types}
use Rattle.tool_stages.specs.Envs.{IsPartitioned, ReportsIn}
use Rattle.tool_stages.specs.Goes.{AgreeIn, HaltsBy}
use Rattle.lab_bound.specs.Enough.{Bounds, BoundsOwn}

-- Other starts: with the listed ones they agree pairwise for the observer, they halt by T, and of each level no relevant
-- mitigation that they begin has a first prediction below the least one that is told.
pub record AreOthers (e : Environment) (q : LabelledProgram) (o t : ℕ) (ss : List StartValue) (levels : List LevelRuns)
    (others : List StartValue) : Type 0 where
  pub agree : AgreeIn e q o (ss ++ others)
  pub halt : All (HaltsBy e t q) others
  pub predict : (l x : ℕ) → PredictedIn (relevant_at (order_of q) (labels_of q) (levels_of q) o (plan_of q.program) l)
      (plan_of q.program) (memories_of others) x → (told_of levels l).first ≤ x

-- On a machine with partitions, of each program that words spell, with its least labelling, up to each T of at least 1: where there is a report of
-- listed starts, of which there is one at least, the numbers bound these and any others together.
abbrev pub BoundOthers : Environment → ℕ → Type 0
BoundOthers e t = IsPartitioned e → 0 < t →
    (words : List Told) (p : Syntax) (q : LabelledProgram) (o : ℕ) (s : StartValue) (ss : List StartValue) (r : AuditReport) (levels : List LevelRuns)
    → IsProgram words p → Types p q → o < p.order.size →
    ReportsIn e q o t (s ∷ ss) r → AreTold q o (memories_of (s ∷ ss)) levels →
    (others : List StartValue) → AreOthers e q o t (s ∷ ss) levels others → Bounds e q o t ((s ∷ ss) ++ others) levels

abbrev pub AllBoundOthers : Type 0
AllBoundOthers = (e : Environment) (t : ℕ) → BoundOthers e t

-- The same by own first predictions: of each level none at a place that is listed is below the one at that place.
pub record AreOthersBy (e : Environment) (q : LabelledProgram) (o t : ℕ) (ss : List StartValue) (firsts : List (List ℕ))
    (others : List StartValue) : Type 0 where
  pub agree : AgreeIn e q o (ss ++ others)
  pub halt : All (HaltsBy e t q) others
  pub predict : (l i x : ℕ) → i < many_at firsts l → PredictedAtIn (relevant_at (order_of q) (labels_of q) (levels_of q) o (plan_of q.program) l)
      (plan_of q.program) (memories_of others) i x → first_at firsts l i ≤ x

abbrev pub BoundOthersOwn : Environment → ℕ → Type 0
BoundOthersOwn e t = IsPartitioned e → 0 < t →
    (words : List Told) (p : Syntax) (q : LabelledProgram) (o : ℕ) (s : StartValue) (ss : List StartValue) (r : AuditReport) (firsts : List (List ℕ))
    → IsProgram words p → Types p q → o < p.order.size →
    ReportsIn e q o t (s ∷ ss) r → AreListed q o (memories_of (s ∷ ss)) firsts →
    (others : List StartValue) → AreOthersBy e q o t (s ∷ ss) firsts others → BoundsOwn e q o t ((s ∷ ss) ++ others) firsts

abbrev pub AllBoundOthersOwn : Type 0
AllBoundOthersOwn = (e : Environment) (t : ℕ) → BoundOthersOwn e t

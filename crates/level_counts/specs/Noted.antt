-- What one step of a walk makes of what is told of the levels, and of the memory.
use Rattle.std.specs.Prelude.{◌+◌, ◌++◌, ℕ, ℤ, List, [], ◌∷◌, Option, Some, None, Bool, cond, eqb, min, slice_get, slice_set}
use Rattle.mit_syntax.specs.Expression.{Expression}
use Rattle.mit_syntax.specs.Values.{value_of}
use Rattle.doubling_schedule.specs.Doubling.{prediction}
use Rattle.source_meaning.specs.declared.walk.Walk.{Walk}
use Rattle.source_meaning.specs.declared.walk.Walk.TheVariants.{Assigned, Began, Silent, Ended}
use Rattle.sharp_count.specs.declared.count.LevelRuns.{LevelRuns}
use Rattle.sharp_count.specs.Levels.{told_of}
use Rattle.own_firsts.specs.Count.{firsts_at}
use Rattle.level_counts.specs.declared.note.Mitigation.{Mitigation}

-- the lesser of two first predictions, where 0 stands for none
abbrev pub lesser : ℕ → ℕ → ℕ
lesser a b = cond (eqb a 0) b (cond (eqb b 0) a (min a b))

-- with one mitigation more
abbrev pub with_one : LevelRuns → ℕ → LevelRuns
with_one t x = record { mitigations = t.mitigations + 1; first = lesser t.first x }

-- with the first predictions of other runs
abbrev pub with_first : LevelRuns → LevelRuns → LevelRuns
with_first t u = record { mitigations = t.mitigations; first = lesser t.first u.first }

-- a relevant mitigation that a step begins: its level, and its first prediction by its estimate
abbrev pub begun_at : ℕ → Option Expression → List ℤ → Option Mitigation
begun_at l None m = None
begun_at l (Some e) m = Some (record { level = l; first = prediction (value_of e m) 0 })

abbrev pub begun : (ℕ → Bool) → (ℕ → ℕ) → List Expression → Walk → List ℤ → Option Mitigation
begun rel ls es (Assigned x n) m = None
begun rel ls es (Began k) m = cond (rel k) (begun_at (ls k) (slice_get es k) m) None
begun rel ls es Silent m = None
begun rel ls es Ended m = None

-- it is counted
abbrev pub with_begun : Option Mitigation → List LevelRuns → List LevelRuns
with_begun None levels = levels
with_begun (Some b) levels = slice_set levels b.level (with_one (told_of levels b.level) b.first)

abbrev pub noted : (ℕ → Bool) → (ℕ → ℕ) → List Expression → Walk → List ℤ → List LevelRuns → List LevelRuns
noted rel ls es walk m levels = with_begun (begun rel ls es walk m) levels

-- its first prediction is the last that is listed of its level
abbrev pub with_listed : Option Mitigation → List (List ℕ) → List (List ℕ)
with_listed None listed = listed
with_listed (Some b) listed = slice_set listed b.level (firsts_at listed b.level ++ b.first ∷ [])

-- an assigned variable has its value
abbrev pub stored : Walk → List ℤ → List ℤ
stored (Assigned x n) m = slice_set m x n
stored (Began k) m = m
stored Silent m = m
stored Ended m = m

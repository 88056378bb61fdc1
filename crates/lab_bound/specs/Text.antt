-- The lines that stand after those of an audit: what is told of each level, the sharp count, the count by shared time, the
-- count by own first predictions, and whether the end is counted.
use Rattle.std.specs.Prelude.{◌≡◌, ◌⊎◌, ◌≤◌, ◌+◌, ◌^◌, ℕ, List, [], ◌∷◌, ◌++◌, length, Option, Some, None, cond, eqb, codes, decimal, ℤ}
use Rattle.label_lattice.specs.Order.{Order, lattice_of, name_of}
use Rattle.mit_syntax.specs.Program.{plan_of}
use Rattle.mit_syntax.specs.Todo.{commands_of}
use Rattle.timing_types.specs.Labelled.{LabelledProgram, order_of, labels_of, levels_of, bare_of}
use Rattle.leak_bound.specs.Relevant.{is_relevant}
use Rattle.sharp_count.specs.declared.count.LevelRuns.{LevelRuns}
use Rattle.sharp_count.specs.declared.count.Runs.TheVariants.{Halted}
use Rattle.leak_bound.specs.Rising.{sharp}
use Rattle.sharp_count.specs.Count.{fitting}
use Rattle.sharp_count.specs.Levels.{miss_counts, counts_of, values_of}
use Rattle.sharp_count.specs.Shared.{shared_of}
use Rattle.sharp_bound.specs.End.{EndsLow}
use Rattle.sharp_bound.specs.Shared.{StandApart}
use Rattle.own_firsts.specs.Count.{own_of}
use Rattle.level_counts.specs.Listed.{AreListed}

-- ` first E digits B`, where runs begin mitigations of the level
abbrev pub firsts_text : ℕ → LevelRuns → List ℕ
firsts_text t told = cond (eqb told.mitigations 0) [] (codes " first " ++ (decimal told.first ++ (codes " digits " ++ decimal (miss_counts t told.first))))

-- `level A mitigations K`, and that
abbrev pub level_line : Order → ℕ → ℕ → LevelRuns → List ℕ
level_line order t l told = codes "level " ++ (name_of order l ++ (codes " mitigations " ++ (decimal told.mitigations ++ (firsts_text t told ++ codes "\n"))))

-- the levels from l on that do not flow to the observer
abbrev pub level_lines : Order → ℕ → ℕ → ℕ → List LevelRuns → List ℕ
level_lines order o t l [] = []
level_lines order o t l (told ∷ levels) = cond ((lattice_of order).flows l o) [] (level_line order t l told) ++ level_lines order o t (l + 1) levels

-- the sharp count of runs that halt by T, of which this is told
abbrev pub sharp_of : ℕ → List LevelRuns → ℕ
sharp_of t levels = sharp (values_of Halted t levels) (length levels) (counts_of levels)

-- the least number of bits that tell n things apart
pub record IsBits (n b : ℕ) : Type 0 where
  pub enough : n ≤ 2 ^ b
  pub least : (c : ℕ) → n ≤ 2 ^ c → b ≤ c

abbrev pub number_text : List ℕ → ℕ → List ℕ
number_text words n = words ++ decimal n

-- `sharp N`, `bits B`, `guess at most N times as often`; N is told where it is below 2^128
abbrev pub IsSharpText : Option ℕ → List ℕ → Type 0
IsSharpText None x = x ≡ codes "sharp 2^128 or more\nbits 128 or more\nguess no limit told\n"
IsSharpText (Some n) x =
    (b : ℕ) × IsBits n b
    × (x ≡ (number_text (codes "sharp ") n ++ codes "\n") ++ ((number_text (codes "bits ") b ++ codes "\n") ++ (number_text (codes "guess at most ") n
    ++ codes " times as often\n")))

-- all these lines
abbrev pub IsBoundText : Order → ℕ → ℕ → List LevelRuns → List ℕ → Type 0
IsBoundText order o t levels x = (rest : List ℕ) × IsSharpText (fitting (sharp_of t levels)) rest × (x ≡ level_lines order o t 0 levels ++ rest)

-- no mitigate that is relevant to the observer stands in another one
abbrev pub AreApart : LabelledProgram → ℕ → Type 0
AreApart q o = StandApart (is_relevant (order_of q) (labels_of q) (levels_of q) o (plan_of q.program)) (commands_of (plan_of q.program))

-- `shared N`; N is told where it is below 2^128
abbrev pub shared_line : Option ℕ → List ℕ
shared_line None = codes "shared 2^128 or more\n"
shared_line (Some n) = number_text (codes "shared ") n ++ codes "\n"

-- the count by shared time of runs that halt by T, where mitigates stand apart, and nothing where they don't
abbrev pub IsSharedText : LabelledProgram → ℕ → ℕ → List LevelRuns → List ℕ → Type 0
IsSharedText q o t levels x =
    (AreApart q o × (x ≡ shared_line (fitting (shared_of t levels))))
    ⊎ ((AreApart q o → ⊥) × (x ≡ []))

-- `own N`; N is told where it is below 2^128
abbrev pub own_line : Option ℕ → List ℕ
own_line None = codes "own 2^128 or more\n"
own_line (Some n) = number_text (codes "own ") n ++ codes "\n"

-- the count by own first predictions of runs from these memories that halt by T, where mitigates stand apart, and nothing where
-- they don't
abbrev pub IsOwnText : LabelledProgram → ℕ → ℕ → List (List ℤ) → List ℕ → Type 0
IsOwnText q o t ms x =
    (AreApart q o × (firsts : List (List ℕ)) × AreListed q o ms firsts × (x ≡ own_line (fitting (own_of t firsts))))
    ⊎ ((AreApart q o → ⊥) × (x ≡ []))

-- The program can be typed with an end label that flows to the observer. A loop can be given more than one end label, and
-- so can a program.
abbrev pub CountsEnd : LabelledProgram → ℕ → Type 0
CountsEnd q o = EndsLow (order_of q) (labels_of q) (bare_of q) o

-- then the counts hold of who sees the end of a run too; else they say nothing of it
abbrev pub IsEndText : LabelledProgram → ℕ → List ℕ → Type 0
IsEndText q o x =
    (CountsEnd q o × (x ≡ codes "end counted: the same holds for who sees runs end\n"))
    ⊎ ((CountsEnd q o → ⊥) × (x ≡ codes "end not counted: no limit told for who sees runs end\n"))

-- the line of the end stands after a text
abbrev pub EndPut : LabelledProgram → ℕ → List ℕ → List ℕ → Type 0
EndPut q o old new = (line : List ℕ) × IsEndText q o line × (new ≡ old ++ line)

-- the lines of a sharp count stand after a text
abbrev pub SharpPut : Option ℕ → List ℕ → List ℕ → Type 0
SharpPut count old new = (rest : List ℕ) × IsSharpText count rest × (new ≡ old ++ rest)

-- all lines stand after a text
abbrev pub BoundPut : Order → ℕ → ℕ → List LevelRuns → List ℕ → List ℕ → Type 0
BoundPut order o t levels old new = (rest : List ℕ) × IsBoundText order o t levels rest × (new ≡ old ++ rest)

-- the line of the count by shared time stands after a text, if there is one
abbrev pub SharedPut : LabelledProgram → ℕ → ℕ → List LevelRuns → List ℕ → List ℕ → Type 0
SharedPut q o t levels old new = (line : List ℕ) × IsSharedText q o t levels line × (new ≡ old ++ line)

-- a text of which this is true stands after another one
abbrev pub TextPut : (List ℕ → Type 0) → List ℕ → List ℕ → Type 0
TextPut P old new = (x : List ℕ) × P x × (new ≡ old ++ x)

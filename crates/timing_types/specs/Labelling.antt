-- A labelling, what it keeps of a program, and the program's commands with its labels.
use Rattle.std.specs.Prelude.{◌≡◌, ℕ, ◌+◌, ◌<◌, List, length, Option, None, Some, slice_index_or}
use Rattle.label_lattice.specs.declared.label.Label.{Label}
use Rattle.label_lattice.specs.Order.{Order, lattice_of}
use Rattle.mit_syntax.specs.Todo.{Marks, Done, Skip, Assign, Put, Sleep, If, While, Mitigate}
use Rattle.mit_syntax.specs.Plan.{Plan, count, mitigates}
use Rattle.mit_syntax.specs.Declarations.{variables, cell_at}
use Rattle.mit_syntax.specs.Program.{Syntax, plan_of}
use Rattle.timing_types.specs.declared.rule.TypeFault.{TypeFault}
use Rattle.timing_types.specs.Placed.{Tree, labelled}
use Rattle.timing_types.specs.Walk.{walk_end, conditions, first_broken}
use Rattle.timing_types.specs.Contexts.{contexts}

-- a label for each variable, two labels for each command in order of the text, and a level for each mitigate
-- by its mark
pub record Labelling : Type 0 where
  pub variables : List Label
  pub commands : List (Label × Label)
  pub levels : List Label

-- the label with a number in a list; past its end bottom
abbrev pub label_at : ℕ → List Label → ℕ → ℕ
label_at bottom ls x = let low : Label = record { number = bottom } in (slice_index_or ls x low).number

abbrev pub marks_from : Label × Label → Marks
marks_from p = record { er = p.0.number; ew = p.1.number }

abbrev pub marks_at : ℕ → List (Label × Label) → ℕ → Marks
marks_at bottom ms i = let low : Label = record { number = bottom } in marks_from (slice_index_or ms i (low, low))

-- the label of a variable, the two labels of a command, and the level of a mitigate
abbrev pub variable_of : Order → Labelling → ℕ → ℕ
variable_of o l = label_at o.bottom l.variables

abbrev pub marks_of : Order → Labelling → ℕ → Marks
marks_of o l = marks_at o.bottom l.commands

abbrev pub level_of : Order → Labelling → ℕ → ℕ
level_of o l = label_at o.bottom l.levels

-- commands with their labels, numbered from i
abbrev pub tree_of : Order → Labelling → Plan → ℕ → Tree
tree_of o l = labelled (marks_of o l) (level_of o l)

-- the end of their walk, and its first broken condition
abbrev pub end_of : Order → Labelling → Plan → ℕ → ℕ → ℕ → ℕ
end_of o l plan i pc t = walk_end (lattice_of o) (variable_of o l) (tree_of o l plan i) pc t

abbrev pub broken_of : Order → Labelling → Plan → ℕ → ℕ → ℕ → Option TypeFault
broken_of o l plan i pc t = first_broken (lattice_of o) (conditions (lattice_of o) (variable_of o l) (tree_of o l plan i) pc t)

-- the program-counter labels of their mitigates, in order of the text
abbrev pub contexts_of : Order → Labelling → Plan → Label → List Label
contexts_of o l plan pc = contexts (lattice_of o) (variable_of o l) plan pc.number

-- a label that is written is kept
abbrev pub IsKept : Option Label → ℕ → Type 0
IsKept None x = Unit {0}
IsKept (Some l) x = x ≡ l.number

-- both labels of a command that writes them are kept; without marks any two labels do
abbrev pub AreKept : Option (Label × Label) → Marks → Type 0
AreKept None m = Unit {0}
AreKept (Some p) m = (m.er ≡ p.0.number) × (m.ew ≡ p.1.number)

-- all labels that commands and mitigates write are kept, where the commands are numbered from i
abbrev pub Keeps : (ℕ → Marks) → (ℕ → ℕ) → Plan → ℕ → Type 0
Keeps ms ls Done i = Unit {0}
Keeps ms ls (Skip w p) i = AreKept w.labels (ms i) × Keeps ms ls p (i + 1)
Keeps ms ls (Assign w x e p) i = AreKept w.labels (ms i) × Keeps ms ls p (i + 1)
Keeps ms ls (Put w f n j e p) i = AreKept w.labels (ms i) × Keeps ms ls p (i + 1)
Keeps ms ls (Sleep w e p) i = AreKept w.labels (ms i) × Keeps ms ls p (i + 1)
Keeps ms ls (If w e a b p) i =
    AreKept w.labels (ms i) × Keeps ms ls a (i + 1) × Keeps ms ls b (i + 1 + count a) × Keeps ms ls p (i + 1 + count a + count b)
Keeps ms ls (While w e c p) i = AreKept w.labels (ms i) × Keeps ms ls c (i + 1) × Keeps ms ls p (i + 1 + count c)
Keeps ms ls (Mitigate w k l e c p) i =
    AreKept w.labels (ms i) × IsKept l (ls k) × Keeps ms ls c (i + 1) × Keeps ms ls p (i + 1 + count c)

-- a labelling of the program: its lengths fit, its labels are labels of the lattice, and what the program
-- writes is kept
pub record IsLabelling (s : Syntax) (l : Labelling) : Type 0 where
  pub variables_fit : length l.variables ≡ variables s.declarations
  pub commands_fit : length l.commands ≡ count (plan_of s)
  pub levels_fit : length l.levels ≡ mitigates (plan_of s)
  pub variables_below : (x : ℕ) → variable_of s.order l x < s.order.size
  pub commands_below : (i : ℕ) → ((marks_of s.order l i).er < s.order.size) × ((marks_of s.order l i).ew < s.order.size)
  pub levels_below : (k : ℕ) → level_of s.order l k < s.order.size
  pub declared : (x : ℕ) → x < variables s.declarations → IsKept (cell_at s.declarations x).label (variable_of s.order l x)
  pub written : Keeps (marks_of s.order l) (level_of s.order l) (plan_of s) 0

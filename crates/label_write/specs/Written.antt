-- A labelled program with all its labels written.
use Rattle.std.specs.Prelude.{◌≡◌, ℕ, ◌+◌, List, [], ◌∷◌, Option, Some, ◌↔◌}
use Rattle.label_lattice.specs.declared.label.Label.{Label}
use Rattle.label_lattice.specs.Order.{Order}
use Rattle.mit_syntax.specs.Chunks.{text}
use Rattle.mit_syntax.specs.Declarations.{Declaration, size_of}
use Rattle.mit_syntax.specs.Layout.{chunks_of}
use Rattle.mit_syntax.specs.Plan.{Written, Plan}
use Rattle.mit_syntax.specs.Program.{Syntax, plan_of}
use Rattle.mit_syntax.specs.Todo.{map_todo}
use Rattle.timing_types.specs.Labelled.{LabelledProgram}
use Rattle.timing_types.specs.Labelling.{Labelling, IsLabelling, variable_of, tree_of}
use Rattle.timing_types.specs.Placed.{Placed, Level}

-- the label with a number
abbrev pub as_label : ℕ → Label
as_label n = record { number = n }

-- a command writes both its labels, and a mitigate its level
abbrev pub with_marks : Placed → Written
with_marks c = record { pos = c.pos; labels = Some (as_label c.marks.er, as_label c.marks.ew) }

abbrev pub with_level : Level → Option Label
with_level l = Some (as_label l.label)

-- commands, numbered from i in order of the text, with the labels that a labelling gives them
abbrev pub written_plan : Order → Labelling → Plan → ℕ → Plan
written_plan o l plan i = map_todo with_marks with_level (tree_of o l plan i)

-- declarations whose first variable has the number x, each with its label
abbrev pub written_declarations : Order → Labelling → List Declaration → ℕ → List Declaration
written_declarations o l [] x = []
written_declarations o l (d ∷ ds) x =
    (d.0, record { label = Some (as_label (variable_of o l x)); length = d.1.length }) ∷ written_declarations o l ds (x + size_of d.1)

-- those of a labelled program
abbrev pub declarations_with_labels : LabelledProgram → List Declaration
declarations_with_labels p = written_declarations p.program.order p.labels p.program.declarations 0

abbrev pub plan_with_labels : LabelledProgram → Plan
plan_with_labels p = written_plan p.program.order p.labels (plan_of p.program) 0

-- its canonical text with all labels
abbrev pub labelled_text : LabelledProgram → List ℕ
labelled_text p = text (chunks_of p.program.order p.program.pairs (declarations_with_labels p) (plan_with_labels p))

-- the program has this labelling and no other
abbrev pub HasOnly : Syntax → Labelling → Type 0
HasOnly s l = (m : Labelling) → IsLabelling s m ↔ (m ≡ l)

-- A labelled program as contracts see it, and a typed one.
use Rattle.std.specs.Prelude.{◌≡◌, ℕ, List, length, Option, Some}
use Rattle.label_lattice.specs.Lattice.{Lattice}
use Rattle.label_lattice.specs.declared.label.Label.{Label}
use Rattle.label_lattice.specs.Order.{lattice_of}
use Rattle.mit_syntax.specs.Todo.{Marked}
use Rattle.mit_syntax.specs.Plan.{mitigates}
use Rattle.mit_syntax.specs.Program.{Syntax, plan_of}
use Rattle.timing_types.specs.declared.rule.TypeFault.{TypeFault}
use Rattle.timing_types.specs.declared.rule.TypeFault.TheVariants.{Refused, Memory}
use Rattle.timing_types.specs.Typing.{IsTyped}
use Rattle.timing_types.specs.Placed.{Tree, bare}
use Rattle.timing_types.specs.Contexts.{HasContexts}
use Rattle.timing_types.specs.Labelling.{Labelling, label_at, variable_of, level_of, tree_of, broken_of}

pub record LabelledProgram : Type 0 where
  pub program : Syntax
  pub labels : Labelling

-- its labels' order, the labels of its variables, the levels of its mitigates by their marks, and its commands
-- with and without their places
abbrev pub order_of : LabelledProgram → Lattice
order_of p = lattice_of p.program.order

abbrev pub labels_of : LabelledProgram → ℕ → ℕ
labels_of p = variable_of p.program.order p.labels

abbrev pub levels_of : LabelledProgram → ℕ → ℕ
levels_of p = level_of p.program.order p.labels

abbrev pub placed_of : LabelledProgram → Tree
placed_of p = tree_of p.program.order p.labels (plan_of p.program) 0

abbrev pub bare_of : LabelledProgram → Marked
bare_of p = bare (placed_of p)

-- there is a derivation
abbrev pub HasType : LabelledProgram → Type 0
HasType p = IsTyped (order_of p) (labels_of p) (bare_of p)

-- what is told of the first broken condition of its walk, which starts at bottom
abbrev pub first_broken_of : LabelledProgram → Option TypeFault
first_broken_of p = broken_of p.program.order p.labels (plan_of p.program) 0 p.program.order.bottom p.program.order.bottom

-- a refusal names the first broken condition, and there is no derivation
abbrev pub IsTypeFault : LabelledProgram → TypeFault → Type 0
IsTypeFault p (Refused rule pos have allowed) = (first_broken_of p ≡ Some (Refused rule pos have allowed)) × (HasType p → ⊥)
IsTypeFault p Memory = Unit {0}

-- the list has the program-counter label of each mitigate, by its mark
pub record AreContexts (p : LabelledProgram) (cs : List Label) : Type 0 where
  pub fit : length cs ≡ mitigates (plan_of p.program)
  pub have : HasContexts (order_of p) (labels_of p) (label_at p.program.order.bottom cs) p.program.order.bottom (bare_of p)

-- a labelled program with the program-counter labels of its mitigates
pub record TypedProgram : Type 0 where
  pub labelled : LabelledProgram
  pub contexts : List Label

-- the program-counter label of the mitigate with a mark
abbrev pub context_of : TypedProgram → ℕ → ℕ
context_of p = label_at p.labelled.program.order.bottom p.contexts

-- Labellings of a program, and the least one.
use Rattle.std.specs.Prelude.{◌≡◌, ℕ, ◌+◌, Bool, false, not, is_none, List, Option, None, Some, slice_get}
use Rattle.label_lattice.specs.declared.label.Label.{Label}
use Rattle.label_lattice.specs.Lattice.{Lattice, Flows}
use Rattle.label_lattice.specs.Order.{lattice_of}
use Rattle.mit_syntax.specs.Todo.{Marks, Done, Skip, Assign, Put, Sleep, If, While, Mitigate}
use Rattle.mit_syntax.specs.Plan.{Plan, count}
use Rattle.mit_syntax.specs.Declarations.{Declaration, Cell, cells}
use Rattle.mit_syntax.specs.Program.{Syntax, plan_of}
use Rattle.timing_types.specs.Typing.{label_of}
use Rattle.timing_types.specs.Walk.{Side, OfCommand, OfVariable, OfLevel, put_index, here, conditions, Meets}
use Rattle.timing_types.specs.Labelling.{Labelling, IsLabelling, marks_from, variable_of, marks_of, level_of, tree_of}
use Rattle.timing_types.specs.Labelled.{HasType}

-- the two labels of a command: those that it writes, and without marks this one twice
abbrev pub own : Option (Label × Label) → ℕ → Marks
own None h = record { er = h; ew = h }
own (Some p) h = marks_from p

-- Each command has the two labels that it writes, and without marks `pc | li` twice. The commands stand at
-- pc, and are numbered from i.
abbrev pub HasOwn : Lattice → (ℕ → ℕ) → (ℕ → Marks) → Plan → ℕ → ℕ → Type 0
HasOwn lat g ms Done i pc = Unit {0}
HasOwn lat g ms (Skip w p) i pc = (ms i ≡ own w.labels pc) × HasOwn lat g ms p (i + 1) pc
HasOwn lat g ms (Assign w x e p) i pc = (ms i ≡ own w.labels (here lat g pc e)) × HasOwn lat g ms p (i + 1) pc
HasOwn lat g ms (Put w f n j e p) i pc = (ms i ≡ own w.labels (lat.join pc (put_index lat g j e))) × HasOwn lat g ms p (i + 1) pc
HasOwn lat g ms (Sleep w e p) i pc = (ms i ≡ own w.labels (here lat g pc e)) × HasOwn lat g ms p (i + 1) pc
HasOwn lat g ms (If w e a b p) i pc =
    let inner = lat.join pc (label_of lat g e) in
    (ms i ≡ own w.labels (here lat g pc e)) × HasOwn lat g ms a (i + 1) inner × HasOwn lat g ms b (i + 1 + count a) inner
    × HasOwn lat g ms p (i + 1 + count a + count b) pc
HasOwn lat g ms (While w e c p) i pc =
    (ms i ≡ own w.labels (here lat g pc e)) × HasOwn lat g ms c (i + 1) (lat.join pc (label_of lat g e)) × HasOwn lat g ms p (i + 1 + count c) pc
HasOwn lat g ms (Mitigate w k l e c p) i pc =
    (ms i ≡ own w.labels (here lat g pc e)) × HasOwn lat g ms c (i + 1) pc × HasOwn lat g ms p (i + 1 + count c) pc

-- a labelling of a program: it keeps what the program writes, and a command without marks has `pc | li` twice
pub record Labels (s : Syntax) (l : Labelling) : Type 0 where
  pub keeps : IsLabelling s l
  pub own : HasOwn (lattice_of s.order) (variable_of s.order l) (marks_of s.order l) (plan_of s) 0 s.order.bottom

-- the variable has no written label
abbrev pub is_unwritten : Option Cell → Bool
is_unwritten None = false
is_unwritten (Some c) = is_none c.label

abbrev pub is_free : List Declaration → ℕ → Bool
is_free ds x = is_unwritten (slice_get (cells ds) x)

-- the label is a variable's or a level, and the program omits it
abbrev pub is_omitted : List Declaration → Side → Bool
is_omitted ds OfCommand = false
is_omitted ds (OfVariable x) = is_free ds x
is_omitted ds (OfLevel k written) = not written

-- each condition of the walk holds whose right side is an omitted label
abbrev pub MeetsOmitted : Syntax → Labelling → Type 0
MeetsOmitted s l =
    Meets (lattice_of s.order) (is_omitted s.declarations)
    (conditions (lattice_of s.order) (variable_of s.order l) (tree_of s.order l (plan_of s) 0) s.order.bottom s.order.bottom)

-- each label flows to that of the other labelling in its place
pub record Below (s : Syntax) (l l' : Labelling) : Type 0 where
  pub variables : (x : ℕ) → Flows (lattice_of s.order) (variable_of s.order l x) (variable_of s.order l' x)
  pub reads : (i : ℕ) → Flows (lattice_of s.order) (marks_of s.order l i).er (marks_of s.order l' i).er
  pub writes : (i : ℕ) → Flows (lattice_of s.order) (marks_of s.order l i).ew (marks_of s.order l' i).ew
  pub levels : (k : ℕ) → Flows (lattice_of s.order) (level_of s.order l k) (level_of s.order l' k)

-- the least of the labellings of a program that meet what it omits
pub record IsLeast (s : Syntax) (l : Labelling) : Type 0 where
  pub labels : Labels s l
  pub meets : MeetsOmitted s l
  pub least : (l' : Labelling) → Labels s l' → MeetsOmitted s l' → Below s l l'

-- if any labelling of the program has a derivation, this one has
abbrev pub TypesMost : Syntax → Labelling → Type 0
TypesMost s l =
    (l' : Labelling) → Labels s l' → HasType (record { program = s; labels = l' }) → HasType (record { program = s; labels = l })

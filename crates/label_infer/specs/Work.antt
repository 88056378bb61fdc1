-- Inference in progress: conditions, those that wait, and the labels so far.
use Rattle.std.specs.Prelude.{◌≡◌, ℕ, ◌+◌, ◌-◌, ◌*◌, ◌<◌, ◌≤◌, zero, suc, Bool, true, false, cond, is_none, ◌||◌, List, [], ◌∷◌, length, slice_index_or}
use Rattle.std.specs.Prelude.{slice_set, slice_get, Some}
use Rattle.label_lattice.specs.declared.label.Label.{Label}
use Rattle.label_lattice.specs.Lattice.{Lattice, Flows}
use Rattle.label_lattice.specs.Order.{Order, lattice_of}
use Rattle.mit_syntax.specs.Declarations.{variables}
use Rattle.mit_syntax.specs.Program.{Syntax, plan_of}
use Rattle.timing_types.specs.Walk.{Side, OfCommand, OfVariable, OfLevel}
use Rattle.timing_types.specs.Labelling.{Labelling, label_at, variable_of, level_of}
use Rattle.label_infer.specs.declared.constraints.Condition.{Condition}
use Rattle.label_infer.specs.Least.{Labels, is_free, MeetsOmitted, IsLeast}
use Rattle.label_infer.specs.Given.{AllFrom, written_levels, KeepsVariables, KeepsLevels}
use Rattle.label_infer.specs.Constraints.{value, Constraint, right_of, constraints_of}
use Rattle.label_infer.specs.ConstraintsOf.{constraint_of, constraints_in}

-- the labels with their order, the conditions in the order of the walk, which of them wait, and the labels so
-- far of variables and mitigates
pub record Work : Type 0 where
  pub order : Order
  pub conditions : List Condition
  pub waits : List Bool
  pub variables : List Label
  pub levels : List Label

abbrev pub lattice_in : Work → Lattice
lattice_in w = lattice_of w.order

abbrev pub variable_in : Work → ℕ → ℕ
variable_in w = label_at w.order.bottom w.variables

abbrev pub level_in : Work → ℕ → ℕ
level_in w = label_at w.order.bottom w.levels

-- whether a condition waits
abbrev pub waits_at : List Bool → ℕ → Bool
waits_at ws i = slice_index_or ws i false

-- the left side and the right side of a condition
abbrev pub have_in : Work → Constraint → ℕ
have_in w n = value (lattice_in w) (length w.variables) (variable_in w) n.have

abbrev pub right_in : Work → Constraint → ℕ
right_in w n = right_of (variable_in w) (level_in w) n.side

-- which wait once the label of x has risen: those that did, and those with x in their left sides
abbrev pub woken : ℕ → List Condition → List Bool → List Bool
woken x [] ws = ws
woken x (c ∷ cs) [] = []
woken x (c ∷ cs) (w ∷ ws) = (w || (constraint_of c).have.has x) ∷ woken x cs ws

-- a condition is taken up: its left side is joined into the label of its right side
abbrev pub joined : Lattice → ℕ → List Label → ℕ → ℕ → List Label
joined lat bottom ls x v = slice_set ls x (record { number = lat.join (label_at bottom ls x) v })

abbrev pub taken_side : Work → ℕ → ℕ → Side → Work
taken_side w i v OfCommand = w
taken_side w i v (OfVariable x) =
    cond ((lattice_in w).flows v (variable_in w x))
    (record { order = w.order; conditions = w.conditions; waits = slice_set w.waits i false; variables = w.variables; levels = w.levels })
    (record {
      order = w.order;
      conditions = w.conditions;
      waits = woken x w.conditions (slice_set w.waits i false);
      variables = joined (lattice_in w) w.order.bottom w.variables x v;
      levels = w.levels;
    })
taken_side w i v (OfLevel k written) =
    record {
      order = w.order;
      conditions = w.conditions;
      waits = slice_set w.waits i false;
      variables = w.variables;
      levels = joined (lattice_in w) w.order.bottom w.levels k v;
    }

-- w' is w with this condition, which waits, taken up
pub record Takes (w w' : Work) (i : ℕ) (c : Condition) : Type 0 where
  pub waits : waits_at w.waits i ≡ true
  pub there : slice_get w.conditions i ≡ Some c
  pub taken : w' ≡ taken_side w i (have_in w (constraint_of c)) (constraint_of c).side

-- no condition waits
abbrev pub IsDone : Work → Type 0
IsDone w = (i : ℕ) → waits_at w.waits i ≡ false

-- The work is that of a program: its conditions are those of the program's walk whose right side is omitted, what
-- is written is kept, each condition that does not wait holds, and each label flows to that of every labelling of
-- the program that meets what it omits.
pub record IsWorkOf (s : Syntax) (w : Work) : Type 0 where
  pub order : w.order ≡ s.order
  pub conditions : constraints_in w.conditions ≡ constraints_of s
  pub fit : length w.waits ≡ length w.conditions
  pub variables : KeepsVariables s w.variables
  pub levels : KeepsLevels s w.levels
  pub settled : (i : ℕ) (c : Condition) → slice_get w.conditions i ≡ Some c → waits_at w.waits i ≡ false
      → Flows (lattice_in w) (have_in w (constraint_of c)) (right_in w (constraint_of c))
  pub low_variables : (l : Labelling) → Labels s l → MeetsOmitted s l → (x : ℕ) → Flows (lattice_in w) (variable_in w x) (variable_of s.order l x)
  pub low_levels : (l : Labelling) → Labels s l → MeetsOmitted s l → (k : ℕ) → Flows (lattice_in w) (level_in w k) (level_of s.order l k)

-- nothing was taken up yet: each condition waits, and each omitted label is bottom
pub record IsFirst (s : Syntax) (w : Work) : Type 0 where
  pub waits : (i : ℕ) → i < length w.conditions → waits_at w.waits i ≡ true
  pub variables : (x : ℕ) → is_free s.declarations x ≡ true → variable_in w x ≡ s.order.bottom
  pub levels : AllFrom (λ k l. is_none l ≡ true → level_in w k ≡ s.order.bottom) 0 (written_levels (plan_of s))

-- its labels are those of the least labelling
pub record IsInferred (s : Syntax) (w : Work) : Type 0 where
  pub variables : (l : Labelling) → IsLeast s l → (x : ℕ) → variable_in w x ≡ variable_of s.order l x
  pub levels : (l : Labelling) → IsLeast s l → (k : ℕ) → level_in w k ≡ level_of s.order l k

-- a chain of labels, each of which flows to the next, a different one: its last label, and how many there are
-- before that
pub data Climb (lat : Lattice) (n : ℕ) : ℕ → ℕ → Type 0 where
  start : {a : ℕ} → a < n → Climb lat n a 0
  up : {a b k : ℕ} → Climb lat n a k → b < n → Flows lat a b → (a ≡ b → ⊥) → Climb lat n b (1 + k)

-- no chain of labels has more than c
abbrev pub ChainsHaveUpTo : Order → ℕ → Type 0
ChainsHaveUpTo o c = (a k : ℕ) → Climb (lattice_of o) o.size a k → k < c

-- how many of the variables below n a left side has
abbrev pub row_count : ℕ → (ℕ → Bool) → ℕ
row_count zero has = 0
row_count (suc n) has = cond (has n) 1 0 + row_count n has

-- the most steps that the conditions of n variables can take with chains of up to c labels: for each, one, and
-- one for each rise of a label in its left side
abbrev pub shares : ℕ → ℕ → List Constraint → ℕ
shares n c [] = 0
shares n c (x ∷ xs) = (1 + row_count n x.have.has * (c - 1)) + shares n c xs

abbrev pub shares_of : Syntax → ℕ → ℕ
shares_of s c = shares (variables s.declarations) c (constraints_of s)

abbrev pub score : Bool → ℕ
score true = 1
score false = 0

-- how far the labels of the variables below n in a left side can still rise, in all
abbrev pub row_left : ℕ → (ℕ → Bool) → (ℕ → ℕ) → ℕ
row_left zero has left = 0
row_left (suc n) has left = cond (has n) (left n) 0 + row_left n has left

-- the most steps that are left
abbrev pub steps_left : ℕ → (ℕ → ℕ) → List Condition → List Bool → ℕ
steps_left n left [] ws = 0
steps_left n left (c ∷ cs) [] = row_left n (constraint_of c).have.has left + steps_left n left cs []
steps_left n left (c ∷ cs) (w ∷ ws) = (score w + row_left n (constraint_of c).have.has left) + steps_left n left cs ws

-- after this many steps no more than the shares are used: each label is at the end of a chain of its rises
pub record IsWithin (w : Work) (c used : ℕ) : Type 0 where
  pub rises : ℕ → ℕ
  pub climbs : (x : ℕ) → Climb (lattice_in w) w.order.size (variable_in w x) (rises x)
  pub bound : used + steps_left (length w.variables) (λ x. c - 1 - rises x) w.conditions w.waits ≤ shares (length w.variables) c (constraints_in w.conditions)

-- What is written of variables, as code keeps it, and conditions as code keeps them.
use Rattle.std.specs.Prelude.{ℕ, Bool, false, is_none, List, map, Option, None, Some, slice_index_or}
use Rattle.label_lattice.specs.declared.label.Label.{Label}
use Rattle.label_lattice.specs.Lattice.{Lattice}
use Rattle.label_lattice.specs.Order.{lattice_of}
use Rattle.mit_syntax.specs.Expression.{Expression}
use Rattle.mit_syntax.specs.Plan.{Plan}
use Rattle.timing_types.specs.Walk.{Side, OfVariable, OfLevel}
use Rattle.label_infer.specs.declared.written_labels.Known.{Known}
use Rattle.label_infer.specs.declared.constraints.Condition.{Condition}
use Rattle.label_infer.specs.declared.constraints.Target.{Target}
use Rattle.label_infer.specs.declared.constraints.Target.TheVariants.{Variable, Level}
use Rattle.label_infer.specs.LeftSideOf.{left_side_of}
use Rattle.label_infer.specs.Constraints.{LeftSide, Constraint, label_or, both, own_read, variable_form, label_form, set_constraint, end_form, constraints}

abbrev pub lat_of : Known → Lattice
lat_of k = lattice_of k.order.now

-- what is written of a variable; past the end bottom
abbrev pub written_at : Known → ℕ → Option Label
written_at k x = let low : Label = record { number = k.order.now.bottom } in slice_index_or k.written.items x (Some low)

abbrev pub free_of : Known → ℕ → Bool
free_of k x = is_none (written_at k x)

abbrev pub written_of : Known → ℕ → ℕ
written_of k x = label_or (written_at k x) k.order.now.bottom

abbrev pub end_of : Known → Plan → LeftSide → LeftSide
end_of k = end_form (lat_of k) (free_of k) (written_of k)

abbrev pub constraints_from : Known → Plan → LeftSide → LeftSide → List Constraint
constraints_from k = constraints (lat_of k) (free_of k) (written_of k)

abbrev pub label_of : Known → Expression → LeftSide
label_of k = label_form (lat_of k) (free_of k) (written_of k)

-- inside a guard
abbrev pub inner_of : Known → LeftSide → Expression → LeftSide
inner_of k pc e = both (lat_of k) pc (label_of k e)

-- the time after a command with these marks, where t was the time before: one that reads nothing, one that reads an expression,
-- an assignment, and one to an element
abbrev pub skip_of : Known → Option (Label × Label) → LeftSide → LeftSide
skip_of k o t = both (lat_of k) t (own_read (lat_of k) o)

abbrev pub after_of : Known → Option (Label × Label) → LeftSide → Expression → LeftSide
after_of k o t e = both (lat_of k) t (both (lat_of k) (label_of k e) (own_read (lat_of k) o))

abbrev pub set_after : Known → Option (Label × Label) → LeftSide → ℕ → Expression → LeftSide
set_after k o t x e = both (lat_of k) (after_of k o t e) (variable_form (lat_of k) (free_of k) (written_of k) x)

abbrev pub put_after : Known → Option (Label × Label) → LeftSide → ℕ → Expression → Expression → LeftSide
put_after k o t f i e = both (lat_of k) (set_after k o t f e) (label_of k i)

-- the left side of an assignment's first condition, and of one to an element
abbrev pub around_of : Known → Option (Label × Label) → LeftSide → LeftSide → LeftSide
around_of k o pc t = both (lat_of k) pc (both (lat_of k) (own_read (lat_of k) o) t)

abbrev pub set_left : Known → Option (Label × Label) → LeftSide → LeftSide → Expression → LeftSide
set_left k o pc t e = both (lat_of k) (label_of k e) (around_of k o pc t)

abbrev pub put_left : Known → Option (Label × Label) → LeftSide → LeftSide → Expression → Expression → LeftSide
put_left k o pc t i e = both (lat_of k) (label_of k e) (both (lat_of k) (label_of k i) (around_of k o pc t))

abbrev pub set_of : Known → ℕ → LeftSide → List Constraint
set_of k x d = set_constraint (free_of k x) x d

abbrev pub side_of : Target → Side
side_of (Variable x) = OfVariable x
side_of (Level k) = OfLevel k false

abbrev pub constraint_of : Condition → Constraint
constraint_of c = record { have = left_side_of c.have; side = side_of c.target }

abbrev pub constraints_in : List Condition → List Constraint
constraints_in cs = map constraint_of cs

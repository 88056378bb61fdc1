-- The walk before omitted labels are known: each left side as a label that is fixed, joined with the labels of
-- some variables.
use Rattle.std.specs.Prelude.{ℕ, zero, suc, Bool, true, false, cond, ◌||◌, eqb, List, [], ◌∷◌, ◌++◌, Option, None, Some}
use Rattle.label_lattice.specs.declared.label.Label.{Label}
use Rattle.label_lattice.specs.Lattice.{Lattice, Flows}
use Rattle.label_lattice.specs.Order.{lattice_of}
use Rattle.mit_syntax.specs.Expression.{Expression}
use Rattle.mit_syntax.specs.Plan.{Written, Plan}
use Rattle.mit_syntax.specs.Declarations.{Declaration, cell_at}
use Rattle.mit_syntax.specs.Program.{Syntax, plan_of}
use Rattle.timing_types.specs.Walk.{Side, OfCommand, OfVariable, OfLevel}
use Rattle.timing_types.specs.Left.{Right, OfCommand as AtCommand, OfVariable as AtVariable, OfLevel as AtLevel, Demand}
use Rattle.timing_types.specs.OneWalk as walk
use Rattle.timing_types.specs.OneWalk.{Sides}
use Rattle.label_infer.specs.Least.{is_free}

-- the fixed label, and which variables' labels are joined to it
pub record LeftSide : Type 0 where
  pub base : ℕ
  pub has : ℕ → Bool

-- its value, where the variables below n have labels g
abbrev pub value_from : Lattice → (ℕ → ℕ) → ℕ → (ℕ → Bool) → ℕ → ℕ
value_from lat g b has zero = b
value_from lat g b has (suc n) = cond (has n) (lat.join (value_from lat g b has n) (g n)) (value_from lat g b has n)

abbrev pub value : Lattice → ℕ → (ℕ → ℕ) → LeftSide → ℕ
value lat n g f = value_from lat g f.base f.has n

-- a condition whose right side is omitted: its left side, and whose label the right side is
pub record Constraint : Type 0 where
  pub have : LeftSide
  pub side : Side

abbrev pub fixed : ℕ → LeftSide
fixed a = record { base = a; has = λ y. false }

-- the read label that a command writes: without marks it has `pc | li`, which is in the left side anyway
abbrev pub own_read : Lattice → Option (Label × Label) → LeftSide
own_read lat None = fixed lat.bottom
own_read lat (Some p) = fixed p.0.number

-- the condition on the label of an assigned variable, where that is omitted
abbrev pub set_constraint : Bool → ℕ → LeftSide → List Constraint
set_constraint true x f = record { have = f; side = OfVariable x } ∷ []
set_constraint false x f = []

-- and on a level
abbrev pub level_constraint : Option Label → ℕ → LeftSide → List Constraint
level_constraint None k f = record { have = f; side = OfLevel k false } ∷ []
level_constraint (Some l) k f = []

module _ (lat : Lattice) where
  abbrev pub both : LeftSide → LeftSide → LeftSide
  both f h = record { base = lat.join f.base h.base; has = λ y. f.has y || h.has y }

  -- free tells which variables have no written label, and written the labels of the others
  module _ (free : ℕ → Bool) (written : ℕ → ℕ) where
    abbrev pub variable_form : ℕ → LeftSide
    variable_form x = cond (free x) (record { base = lat.bottom; has = λ y. false || eqb x y }) (fixed (written x))

    -- forms as left sides of the one walk
    abbrev pub form_sides : Sides LeftSide Written
    form_sides = record { none = fixed lat.bottom; both = both; variable = λ how w. variable_form; read = λ how w. own_read lat w.labels }

    abbrev pub label_form : Expression → LeftSide
    label_form e = walk.reads_by form_sides variable_form e

    abbrev pub index_form : Expression → LeftSide
    index_form e = walk.index_reads_by form_sides variable_form e

    abbrev pub end_form : Plan → LeftSide → LeftSide
    end_form p t = walk.ends form_sides p t

    -- of the conditions of the one walk those whose right side is omitted, in the same order
    abbrev pub omitted_by : Right (Option Label) → LeftSide → List Constraint
    omitted_by AtCommand f = []
    omitted_by (AtVariable x) f = set_constraint (free x) x f
    omitted_by (AtLevel k l) f = level_constraint l k f

    abbrev pub omitted : List (Demand LeftSide Written (Option Label)) → List Constraint
    omitted [] = []
    omitted (d ∷ ds) = omitted_by d.side d.have ++ omitted ds

    abbrev pub constraints : Plan → LeftSide → LeftSide → List Constraint
    constraints p pc t = omitted (walk.demands form_sides p pc t)

-- the right side
abbrev pub right_of : (ℕ → ℕ) → (ℕ → ℕ) → Side → ℕ
right_of g lv OfCommand = 0
right_of g lv (OfVariable x) = g x
right_of g lv (OfLevel k written) = lv k

-- each of these conditions holds
abbrev pub AllMet : Lattice → ℕ → (ℕ → ℕ) → (ℕ → ℕ) → List Constraint → Type 0
AllMet lat n g lv [] = Unit {0}
AllMet lat n g lv (c ∷ cs) = Flows lat (value lat n g c.have) (right_of g lv c.side) × AllMet lat n g lv cs

-- the label that is written, or this one
abbrev pub label_or : Option Label → ℕ → ℕ
label_or None b = b
label_or (Some l) b = l.number

abbrev pub written_in : List Declaration → ℕ → ℕ → ℕ
written_in ds b x = label_or (cell_at ds x).label b

-- the conditions of a program whose right side is omitted
abbrev pub constraints_of : Syntax → List Constraint
constraints_of s =
    constraints (lattice_of s.order) (is_free s.declarations) (written_in s.declarations s.order.bottom) (plan_of s) (fixed s.order.bottom)
    (fixed s.order.bottom)

-- What is judged of a program, and which fault is told.
use Rattle.std.specs.Prelude.{ℕ, zero, suc, cond, Bool, Option, Some, None, MatchOption}
use Rattle.label_lattice.specs.Order.{Order, lattice_of}
use Rattle.mit_syntax.specs.Program.{plan_of}
use Rattle.timing_types.specs.Labelled.{LabelledProgram}
use Rattle.steady_code.specs.declared.fault.Fault.{Fault}
use Rattle.steady_code.specs.declared.costing.Costing.{Costing}
use Rattle.steady_program.specs.Lowered.{IsEnd, IsSteady, IsFirstFault}
use Rattle.lab_steady.specs.Owner.{owner, same_place}

-- No instruction of the image has a fault, by the costs of operators that are asked about, for an observer and below a
-- label of the environments, or this is the first one that has; something is asked up to the last thing that is seen, or of the whole run.
abbrev pub IsJudged : Costing → LabelledProgram → ℕ → ℕ → Bool → Option Fault → Type 0
IsJudged costing q o h whole f = (end : ℕ) × IsEnd q o whole end × MatchOption f (IsSteady costing q o h end) (IsFirstFault costing q o h end)

-- the join of the labels below a number, and the label to which all flow
abbrev pub join_below : Order → ℕ → ℕ
join_below order zero = order.bottom
join_below order (suc n) = (lattice_of order).join (join_below order n) n

abbrev pub top_of : Order → ℕ
top_of order = join_below order order.size

-- two places are in the own code of one command
abbrev pub is_one_command : LabelledProgram → ℕ → ℕ → Bool
is_one_command q a b = same_place (owner (plan_of q.program) 0 a) (owner (plan_of q.program) 0 b)

-- The fault that is told: the first one. But where its command has a fault that is there though environments agree in
-- all, that one: so a secret index is told as an index, and not as the read label that comes of it.
abbrev pub told : LabelledProgram → Fault → Option Fault → Fault
told q f None = f
told q f (Some g) = cond (is_one_command q f.place g.place) g f

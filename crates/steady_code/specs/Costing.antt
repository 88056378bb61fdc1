-- Machines whose operators cost otherwise, and what must be known of operands so that two runs pay the same.
use Rattle.std.specs.Prelude.{◌≡◌, ℕ, zero, suc, ◌+◌, leb, List, ◌∷◌, Bool, true, cond, not, ◌&&◌, ◌||◌, ℤ, Option, Some, None, slice_get}
use Rattle.mit_syntax.specs.Todo.{Marks}
use Rattle.mit_syntax.specs.Values.{apply}
use Rattle.mit_syntax.specs.declared.ast.Op.{Op}
use Rattle.mit_syntax.specs.declared.ast.Op.TheVariants.{Add, Sub, Mul, Div, Rem, Eq, Ne, Lt, Le, Gt, Ge}
use Rattle.env_contract.specs.Env.{Env}
use Rattle.label_code.specs.Costs.{op_cost}
use Rattle.label_code.specs.Machine.{Opened, Core, Machine, fetched, waited, first, rest, at, act, obey, marks_of, start}
use Rattle.label_code.specs.Run.{Start, run_from}
use Rattle.label_code.specs.declared.code.Work.{Work}
use Rattle.label_code.specs.declared.code.Work.TheVariants.{Apply}
use Rattle.label_code.specs.declared.code.Instr.{Instr}
use Rattle.steady_code.specs.declared.tag.Tag.{Tag}
use Rattle.steady_code.specs.declared.costing.Constant.{Constant}
use Rattle.steady_code.specs.declared.costing.Costing.{Costing}
use Rattle.steady_code.specs.declared.costing.Costing.TheVariants.{Table, Only}
use Rattle.steady_code.specs.Steady.{Known, costs_same}

-- cycles of an operator beyond its 1, by its operands
abbrev pub OpCosts : Type 0
OpCosts = Op → ℤ → ℤ → ℕ

-- ---- the machine where operators cost this: nothing else is another

abbrev pub act_with : {E : Type 0} → OpCosts → Env E → Marks → Work → ℕ → List ℤ → List Opened → Core E → Machine E
act_with cost v m (Apply o) a ops os s =
    at (a + 1) (apply o (first (rest ops)) (first ops) ∷ rest (rest ops)) os (waited (cost o (first (rest ops)) (first ops)) s)
act_with cost v m w a ops os s = act v m w a ops os s

abbrev pub obey_with : {E : Type 0} → OpCosts → Env E → Option Instr → Machine E → Machine E
obey_with cost v None s = obey v None s
obey_with cost v (Some i) s = act_with cost v (marks_of i) i.work s.place s.operands s.opened (fetched v (marks_of i) s.place s.core)

abbrev pub step_with : {E : Type 0} → OpCosts → Env E → List Instr → Machine E → Machine E
step_with cost v image s = cond s.halted s (obey_with cost v (slice_get image s.place) s)

-- as many steps as end by T, of at most so many
abbrev pub run_for_with : {E : Type 0} → OpCosts → Env E → List Instr → ℕ → ℕ → Machine E → Machine E
run_for_with cost v image t zero s = s
run_for_with cost v image t (suc n) s =
    cond (leb (step_with cost v image s).core.clock t && not s.halted) (run_for_with cost v image t n (step_with cost v image s)) s

-- the run to T from a start
abbrev pub run_with : {E : Type 0} → OpCosts → Env E → List Instr → ℕ → Start E → Machine E
run_with cost v image t s = run_for_with cost v image t t (start s.memory s.env)

-- where operators cost what the table says, it is the machine of `label_code`
abbrev pub HasOwnCosts : {E : Type 0} → Env E → Type 0
HasOwnCosts {E} v = (image : List Instr) (t : ℕ) (s : Start E) → run_with op_cost v image t s ≡ run_from v image t s

-- ---- what must be known of operands

-- Where this test holds of what is known of an operator's operands, two runs pay the same for it: the law between what
-- is asked and what operators cost.
abbrev pub FitsCosts : (Op → Tag → Tag → Bool) → OpCosts → Type 0
FitsCosts settled cost =
    (o : Op) (k l : Tag) (x x' y y' : ℤ) → Known k x x' → Known l y y' → settled o k l ≡ true → cost o x y ≡ cost o x' y'

-- whether an operator is named as one of constant cost
abbrev pub is_named : Constant → Op → Bool
is_named c Add = c.add
is_named c Sub = c.subtract
is_named c Mul = c.multiply
is_named c Div = c.divide
is_named c Rem = c.remainder
is_named c Eq = c.compare
is_named c Ne = c.compare
is_named c Lt = c.compare
is_named c Le = c.compare
is_named c Gt = c.compare
is_named c Ge = c.compare

-- these are costs of operators that are asked about: those of the table, or any that depend on operands at most for
-- operators that are not named
abbrev pub HasCosts : Costing → OpCosts → Type 0
HasCosts Table cost = (o : Op) (x y : ℤ) → cost o x y ≡ op_cost o x y
HasCosts (Only c) cost = (o : Op) (x y x' y' : ℤ) → is_named c o ≡ true → cost o x y ≡ cost o x' y'

-- what is asked of operands: by the table, or that both are equal for an operator that is not named
abbrev pub settled_by : Costing → Op → Tag → Tag → Bool
settled_by Table o k l = costs_same o k l
settled_by (Only c) o k l = is_named c o || (k.same && l.same)

-- where that holds, two runs pay the same, whichever of these costs operators have
abbrev pub AllFit : Type 0
AllFit = (costing : Costing) (cost : OpCosts) → HasCosts costing cost → FitsCosts (settled_by costing) cost

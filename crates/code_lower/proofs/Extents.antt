-- Sizes and depths of a command and of the rest of its list.
use Rattle.std.proofs.Common.{◌≡◌, ℕ, ◌+◌, ◌<◌, ◌≤◌, max, ap, ◌∙◌, List, length, get_or, drop, arith}
use Rattle.mit_syntax.specs.declared.ast.Command.{Command}
use Rattle.mit_syntax.specs.declared.ast.Form.{Form, Skip as FSkip, Assign as FAssign, Put as FPut, Sleep as FSleep, If' as FIf, While' as FWhile}
use Rattle.mit_syntax.specs.declared.ast.Form.{Mitigate' as FMitigate}
use Rattle.mit_syntax.specs.Expression.{Expression, Number, Variable, Binary, Element}
use Rattle.mit_syntax.specs.Todo.{Todo, Done, Skip, Assign, Put, Sleep, If, While, Mitigate}
use Rattle.mit_syntax.specs.Plan.{Written, Plan, form_plan, command_plan, list_plan}
use Rattle.timing_types.proofs.Parts.{cut}
use Rattle.code_lower.specs.Layout.{expr_size, size}
use Rattle.code_lower.specs.Depth.{expr_operands, most_operands, deepest}

pub size-form : (f : Form) (w : Written) (rest : Plan) → size (form_plan f w rest) ≡ size (form_plan f w Done) + size rest
size-form FSkip w rest = omega arith
size-form (FAssign x e) w rest = omega arith
size-form (FPut a n i e) w rest = omega arith
size-form (FSleep e) w rest = omega arith
size-form (FIf e s a s' b) w rest = omega arith
size-form (FWhile e s c) w rest = omega arith
size-form (FMitigate k e l s c) w rest = omega arith

pub operands-form : (f : Form) (w : Written) (rest : Plan) → most_operands (form_plan f w rest) ≡ max (most_operands (form_plan f w Done)) (most_operands rest)
operands-form FSkip w rest = omega arith
operands-form (FAssign x e) w rest = omega arith
operands-form (FPut a n i e) w rest = omega arith
operands-form (FSleep e) w rest = omega arith
operands-form (FIf e s a s' b) w rest = omega arith
operands-form (FWhile e s c) w rest = omega arith
operands-form (FMitigate k e l s c) w rest = omega arith

pub deepest-form : (f : Form) (w : Written) (rest : Plan) → deepest (form_plan f w rest) ≡ max (deepest (form_plan f w Done)) (deepest rest)
deepest-form FSkip w rest = omega arith
deepest-form (FAssign x e) w rest = omega arith
deepest-form (FPut a n i e) w rest = omega arith
deepest-form (FSleep e) w rest = omega arith
deepest-form (FIf e s a s' b) w rest = omega arith
deepest-form (FWhile e s c) w rest = omega arith
deepest-form (FMitigate k e l s c) w rest = omega arith

-- a list from one of its commands on
module _ (cs : List Command) (i : ℕ) (c : Command) (h : i < length cs) (is : c ≡ get_or cs i c) where
  pub cut_size : size (list_plan (drop i cs)) ≡ size (command_plan c Done) + size (list_plan (drop (i + 1) cs))
  cut_size = ap (λ z. size (list_plan z)) (cut cs i c h is) ∙ size-form c.form (record { pos = c.pos; labels = c.labels }) (list_plan (drop (i + 1) cs))

  pub cut_operands : most_operands (list_plan (drop i cs)) ≡ max (most_operands (command_plan c Done)) (most_operands (list_plan (drop (i + 1) cs)))
  cut_operands = ap (λ z. most_operands (list_plan z)) (cut cs i c h is)
      ∙ operands-form c.form (record { pos = c.pos; labels = c.labels }) (list_plan (drop (i + 1) cs))

  pub cut_deepest : deepest (list_plan (drop i cs)) ≡ max (deepest (command_plan c Done)) (deepest (list_plan (drop (i + 1) cs)))
  cut_deepest = ap (λ z. deepest (list_plan z)) (cut cs i c h is)
      ∙ deepest-form c.form (record { pos = c.pos; labels = c.labels }) (list_plan (drop (i + 1) cs))

-- no code is deeper than it is long
pub expr_operands_within : (e : Expression) → expr_operands e ≤ expr_size e
expr_operands_within (Number n) = omega arith
expr_operands_within (Variable x) = omega arith
expr_operands_within (Binary o l r) = let a = expr_operands_within l in let b = expr_operands_within r in omega arith
expr_operands_within (Element f n i) = let a = expr_operands_within i in omega arith

pub operands_within : {M L : Type 0} → (p : Todo M L) → most_operands p ≤ size p
operands_within Done = omega arith
operands_within (Skip m r) = let a = operands_within r in omega arith
operands_within (Assign m x e r) = let a = operands_within r in let b = expr_operands_within e in omega arith
operands_within (Put m f n i e r) = let a = operands_within r in let b = expr_operands_within e in let c = expr_operands_within i in omega arith
operands_within (Sleep m e r) = let a = operands_within r in let b = expr_operands_within e in omega arith
operands_within (If m e c d r) = let a = operands_within r in let b = expr_operands_within e in let x = operands_within c in let y =
    operands_within d in omega arith
operands_within (While m e c r) = let a = operands_within r in let b = expr_operands_within e in let x = operands_within c in omega arith
operands_within (Mitigate m k l e c r) = let a = operands_within r in let b = expr_operands_within e in let x = operands_within c in omega arith

pub deepest_within : {M L : Type 0} → (p : Todo M L) → deepest p ≤ size p
deepest_within Done = omega arith
deepest_within (Skip m r) = let a = deepest_within r in omega arith
deepest_within (Assign m x e r) = let a = deepest_within r in omega arith
deepest_within (Put m f n i e r) = let a = deepest_within r in omega arith
deepest_within (Sleep m e r) = let a = deepest_within r in omega arith
deepest_within (If m e c d r) = let a = deepest_within r in let x = deepest_within c in let y = deepest_within d in omega arith
deepest_within (While m e c r) = let a = deepest_within r in let x = deepest_within c in omega arith
deepest_within (Mitigate m k l e c r) = let a = deepest_within r in let x = deepest_within c in omega arith

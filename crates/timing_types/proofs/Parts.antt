-- A command that has parts, as code reads it.
use Rattle.std.proofs.Common.{◌≡◌, ℕ, suc, zero, ◌+◌, ◌<◌, ◌≤◌, sym, ap, ◌∙◌, List, [], ◌∷◌, length, get_or, drop, arith, Vec, Global, Option, drop-cons}
use Rattle.label_lattice.specs.declared.label.Label.{Label}
use Rattle.mit_syntax.specs.declared.ast.Expr.{Expr}
use Rattle.mit_syntax.specs.Expression.{expression_of}
use Rattle.mit_syntax.specs.declared.ast.Command.{Command}
use Rattle.mit_syntax.specs.declared.ast.Form.{Form, While as DWhile, If as DIf, Mitigate as DMitigate}
use Rattle.mit_syntax.specs.declared.ast.Form.{Skip as FSkip, Assign as FAssign, Put as FPut, Sleep as FSleep, If' as FIf, While' as FWhile}
use Rattle.mit_syntax.specs.declared.ast.Form.{Mitigate' as FMitigate}
use Rattle.mit_syntax.specs.Todo.{Done, If, While, Mitigate}
use Rattle.mit_syntax.specs.Plan.{Written, Plan, form_plan, list_plan, count, form_count, plan-If, plan-While, plan-Mitigate}

pub if_parts : (f : Form) (e : Expr) (v u : Vec Command Global) (a b : List Command) → f ≡ DIf e v u → a ≡ v.items → b ≡ u.items →
    (w : Written) (rest : Plan) → form_plan f w rest ≡ If w (expression_of e) (list_plan a) (list_plan b) rest
if_parts f e v u a b is ha hb w rest =
    ap (λ z. form_plan z w rest) is ∙ plan-If e v u w rest
    ∙ ap (λ z. If w (expression_of e) (list_plan z) (list_plan u.items) rest) (sym ha)
    ∙ ap (λ z. If w (expression_of e) (list_plan a) (list_plan z) rest) (sym hb)

pub while_parts : (f : Form) (e : Expr) (v : Vec Command Global) (a : List Command) → f ≡ DWhile e v → a ≡ v.items →
    (w : Written) (rest : Plan) → form_plan f w rest ≡ While w (expression_of e) (list_plan a) rest
while_parts f e v a is ha w rest = ap (λ z. form_plan z w rest) is ∙ plan-While e v w rest ∙ ap (λ z. While w (expression_of e) (list_plan z) rest) (sym ha)

pub mitigate_parts : (f : Form) (k : ℕ) (e : Expr) (l : Option Label) (v : Vec Command Global) (a : List Command) → f ≡ DMitigate k e l v → a ≡ v.items →
    (w : Written) (rest : Plan) → form_plan f w rest ≡ Mitigate w k l (expression_of e) (list_plan a) rest
mitigate_parts f k e l v a is ha w rest =
    ap (λ z. form_plan z w rest) is ∙ plan-Mitigate k e l v w rest ∙ ap (λ z. Mitigate w k l (expression_of e) (list_plan z) rest) (sym ha)

-- the count of a command that has parts
pub if_count : (f : Form) (e : Expr) (v u : Vec Command Global) (a b : List Command) → f ≡ DIf e v u → a ≡ v.items → b ≡ u.items →
    (w : Written) → form_count f w ≡ 1 + count (list_plan a) + count (list_plan b)
if_count f e v u a b is ha hb w = let h = ap count (if_parts f e v u a b is ha hb w Done) in omega (arith, h)

pub while_count : (f : Form) (e : Expr) (v : Vec Command Global) (a : List Command) → f ≡ DWhile e v → a ≡ v.items → (w : Written)
    → form_count f w ≡ 1 + count (list_plan a)
while_count f e v a is ha w = let h = ap count (while_parts f e v a is ha w Done) in omega (arith, h)

pub mitigate_count : (f : Form) (k : ℕ) (e : Expr) (l : Option Label) (v : Vec Command Global) (a : List Command) → f ≡ DMitigate k e l v → a ≡ v.items
    → (w : Written) → form_count f w ≡ 1 + count (list_plan a)
mitigate_count f k e l v a is ha w = let h = ap count (mitigate_parts f k e l v a is ha w Done) in omega (arith, h)

-- a command, and then the rest
pub form_count-rest : (f : Form) (w : Written) (rest : Plan) → count (form_plan f w rest) ≡ form_count f w + count rest
form_count-rest FSkip w rest = omega arith
form_count-rest (FAssign x e) w rest = omega arith
form_count-rest (FPut a n i e) w rest = omega arith
form_count-rest (FSleep e) w rest = omega arith
form_count-rest (FIf e s a s' b) w rest = omega arith
form_count-rest (FWhile e s c) w rest = omega arith
form_count-rest (FMitigate k e l s c) w rest = omega arith

-- the count of a list from one of its commands on
pub cut : (cs : List Command) (i : ℕ) (c : Command) → i < length cs → c ≡ get_or cs i c → drop i cs ≡ c ∷ drop (i + 1) cs
cut cs i c h is =
    let next : i + 1 ≡ suc i = omega arith in
    drop-cons cs i c h ∙ ap (λ z. z ∷ drop (suc i) cs) (sym is) ∙ ap (λ z. c ∷ drop z cs) (sym next)

pub cut_count : (cs : List Command) (i : ℕ) (c : Command) → i < length cs → c ≡ get_or cs i c →
    count (list_plan (drop i cs)) ≡ form_count c.form (record { pos = c.pos; labels = c.labels }) + count (list_plan (drop (i + 1) cs))
cut_count cs i c h is =
    ap (λ z. count (list_plan z)) (cut cs i c h is) ∙ form_count-rest c.form (record { pos = c.pos; labels = c.labels }) (list_plan (drop (i + 1) cs))

pub drop_count : (cs : List Command) (i : ℕ) → count (list_plan (drop i cs)) ≤ count (list_plan cs)
drop_count [] zero = omega arith
drop_count [] (suc i) = omega arith
drop_count (c ∷ cs) zero = omega arith
drop_count (c ∷ cs) (suc i) =
    let h = form_count-rest c.form (record { pos = c.pos; labels = c.labels }) (list_plan cs) in
    omega (arith, drop_count cs i, h)

-- The commands of a program, as one value: what the program writes, with positions.
use Rattle.std.proofs.Common.{refl, ap, ◌∙◌, Vec, Global}
use Rattle.std.specs.Prelude.{◌≡◌, ℕ, ◌+◌, List, [], ◌∷◌, Option}
use Rattle.label_lattice.specs.declared.label.Label.{Label}
use Rattle.text_base.specs.declared.pos.Pos.{Pos}
use Rattle.mit_syntax.specs.declared.ast.Expr.{Expr}
use Rattle.mit_syntax.specs.Expression.{expression_of}
use Rattle.mit_syntax.specs.declared.ast.Command.{Command}
use Rattle.mit_syntax.specs.declared.ast.Form.{Form, Row_of-Command, end_of-Command, more_of-Command, items-the_row-Command, items_hidden-the_row-Command-0}
use Rattle.mit_syntax.specs.declared.ast.Form.{While as DWhile, If as DIf, Mitigate as DMitigate}
use Rattle.mit_syntax.specs.declared.ast.Form.{Skip as FSkip, Assign as FAssign, Put as FPut, Sleep as FSleep, If' as FIf, While' as FWhile}
use Rattle.mit_syntax.specs.declared.ast.Form.{Mitigate' as FMitigate}
use Rattle.mit_syntax.specs.declared.ast.Form.TheBlock.{hidden-the_row-Command-0}
use Rattle.mit_syntax.specs.Todo.{Todo, Done, Skip, Assign, Put, Sleep, If, While, Mitigate}

-- what a command writes: the position of its first token, and its marks where it has them
pub record Written : Type 0 where
  pub pos : Pos
  pub labels : Option (Label × Label)

-- a program's commands
abbrev pub Plan : Type 0
Plan = Todo Written (Option Label)

-- a command, before the rest of its list
abbrev mutual
  pub form_plan : Form → Written → Plan → Plan
  form_plan FSkip w rest = Skip w rest
  form_plan (FAssign x e) w rest = Assign w x (expression_of e) rest
  form_plan (FPut a n i e) w rest = Put w a n (expression_of i) (expression_of e) rest
  form_plan (FSleep e) w rest = Sleep w (expression_of e) rest
  form_plan (FIf e s a s' b) w rest = If w (expression_of e) (row_plan a) (row_plan b) rest
  form_plan (FWhile e s c) w rest = While w (expression_of e) (row_plan c) rest
  form_plan (FMitigate k e l s c) w rest = Mitigate w k l (expression_of e) (row_plan c) rest

  pub row_plan : {n : _} → Row_of-Command n → Plan
  row_plan end_of-Command = Done
  row_plan (more_of-Command p l f r) = form_plan f (record { pos = p; labels = l }) (row_plan r)

abbrev pub command_plan : Command → Plan → Plan
command_plan c rest = form_plan c.form (record { pos = c.pos; labels = c.labels }) rest

-- a list of commands, as a `Vec` has it
abbrev pub list_plan : List Command → Plan
list_plan [] = Done
list_plan (c ∷ cs) = command_plan c (list_plan cs)

-- how many commands there are
abbrev pub count : {M L : Type 0} → Todo M L → ℕ
count Done = 0
count (Skip m p) = 1 + count p
count (Assign m x e p) = 1 + count p
count (Put m a n i e p) = 1 + count p
count (Sleep m e p) = 1 + count p
count (If m e a b p) = 1 + count a + count b + count p
count (While m e c p) = 1 + count c + count p
count (Mitigate m k l e c p) = 1 + count c + count p

-- how many of them are mitigates
abbrev pub mitigates : {M L : Type 0} → Todo M L → ℕ
mitigates Done = 0
mitigates (Skip m p) = mitigates p
mitigates (Assign m x e p) = mitigates p
mitigates (Put m a n i e p) = mitigates p
mitigates (Sleep m e p) = mitigates p
mitigates (If m e a b p) = mitigates a + mitigates b + mitigates p
mitigates (While m e c p) = mitigates c + mitigates p
mitigates (Mitigate m k l e c p) = 1 + mitigates c + mitigates p

-- the same of a form alone
abbrev pub form_count : Form → Written → ℕ
form_count f w = count (form_plan f w Done)

pub row_plan-list : {n : _} (r : Row_of-Command n) → row_plan r ≡ list_plan (items-the_row-Command n r)
row_plan-list end_of-Command = refl
row_plan-list (more_of-Command p l f r) = ap (λ z. form_plan f (record { pos = p; labels = l }) z) (row_plan-list r)

plan-Vec : (v : Vec Command Global) → row_plan (hidden-the_row-Command-0 v) ≡ list_plan v.items
plan-Vec v = row_plan-list (hidden-the_row-Command-0 v) ∙ ap list_plan (items_hidden-the_row-Command-0 v)

pub plan-If : (e : Expr) (v u : Vec Command Global) (w : Written) (rest : Plan)
    → form_plan (DIf e v u) w rest ≡ If w (expression_of e) (list_plan v.items) (list_plan u.items) rest
plan-If e v u w rest =
    ap (λ z. If w (expression_of e) z (row_plan (hidden-the_row-Command-0 u)) rest) (plan-Vec v)
    ∙ ap (λ z. If w (expression_of e) (list_plan v.items) z rest) (plan-Vec u)

pub plan-While : (e : Expr) (v : Vec Command Global) (w : Written) (rest : Plan)
    → form_plan (DWhile e v) w rest ≡ While w (expression_of e) (list_plan v.items) rest
plan-While e v w rest = ap (λ z. While w (expression_of e) z rest) (plan-Vec v)

pub plan-Mitigate : (k : ℕ) (e : Expr) (l : Option Label) (v : Vec Command Global) (w : Written) (rest : Plan)
    → form_plan (DMitigate k e l v) w rest ≡ Mitigate w k l (expression_of e) (list_plan v.items) rest
plan-Mitigate k e l v w rest = ap (λ z. Mitigate w k l (expression_of e) z rest) (plan-Vec v)

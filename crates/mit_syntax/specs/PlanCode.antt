-- How a proof tells the commands of two programs apart: a plan as the list of what is written, each command behind
-- its parts.
use Rattle.std.proofs.Common.{refl, ap, ◌∙◌, inl, inr}
use Rattle.std.specs.Prelude.{◌≡◌, ℕ, zero, suc, ℤ, List, [], ◌∷◌, Option, ◌⊎◌}
use Rattle.std.specs.Coded.{Coded, code_by, coded×, coded⊎, coded_ℕ, coded_ℤ, coded_list, coded_option}
use Rattle.label_lattice.specs.declared.label.Label.{Label}
use Rattle.text_base.specs.declared.pos.Pos.{Pos}
use Rattle.mit_syntax.specs.declared.ast.Op.{Op}
use Rattle.mit_syntax.specs.declared.ast.Op.TheVariants.{Add, Sub, Mul, Div, Rem, Eq, Ne, Lt, Le, Gt, Ge}
use Rattle.mit_syntax.specs.Expression.{Expression, Number, Variable, Binary, Element}
use Rattle.mit_syntax.specs.Todo.{Done, Skip, Assign, Put, Sleep, If, While, Mitigate}
use Rattle.mit_syntax.specs.Plan.{Plan, Written}

abbrev label_code : Coded Label
label_code = code_by ℕ coded_ℕ (λ l. l.number) (λ n. record { number = n }) (λ _. refl)

abbrev pos_code : Coded Pos
pos_code = code_by (ℕ × ℕ) (coded× coded_ℕ coded_ℕ) (λ p. (p.line, p.column)) (λ q. record { line = q.0; column = q.1 }) (λ _. refl)

abbrev written_code : Coded Written
written_code =
    code_by (Pos × Option (Label × Label)) (coded× pos_code (coded_option (coded× label_code label_code))) (λ w. (w.pos, w.labels))
    (λ q. record { pos = q.0; labels = q.1 }) (λ _. refl)

-- ---- operators

abbrev op_number : Op → ℕ
op_number Add = 0
op_number Sub = 1
op_number Mul = 2
op_number Div = 3
op_number Rem = 4
op_number Eq = 5
op_number Ne = 6
op_number Lt = 7
op_number Le = 8
op_number Gt = 9
op_number Ge = 10

abbrev op_at : ℕ → List Op → Op
op_at n [] = Add
op_at zero (o ∷ os) = o
op_at (suc n) (o ∷ os) = op_at n os

abbrev op_back : ℕ → Op
op_back n = op_at n (Add ∷ Sub ∷ Mul ∷ Div ∷ Rem ∷ Eq ∷ Ne ∷ Lt ∷ Le ∷ Gt ∷ Ge ∷ [])

pub op_again : (o : Op) → op_back (op_number o) ≡ o
op_again Add = refl
op_again Sub = refl
op_again Mul = refl
op_again Div = refl
op_again Rem = refl
op_again Eq = refl
op_again Ne = refl
op_again Lt = refl
op_again Le = refl
op_again Gt = refl
op_again Ge = refl

abbrev op_code : Coded Op
op_code = code_by ℕ coded_ℕ op_number op_back op_again

-- ---- expressions

-- a number, a variable, an operator, or an element
abbrev Sign : Type 0
Sign = (ℤ ⊎ ℕ) ⊎ (Op ⊎ (ℕ × ℕ))

abbrev signs_of : Expression → List Sign → List Sign
signs_of (Number n) r = inl (inl n) ∷ r
signs_of (Variable x) r = inl (inr x) ∷ r
signs_of (Binary o a b) r = signs_of a (signs_of b (inr (inl o) ∷ r))
signs_of (Element f n i) r = signs_of i (inr (inr (f, n)) ∷ r)

abbrev sign_on : Sign → List Expression → List Expression
sign_on (inl (inl n)) es = Number n ∷ es
sign_on (inl (inr x)) es = Variable x ∷ es
sign_on (inr (inl o)) [] = []
sign_on (inr (inl o)) (b ∷ []) = []
sign_on (inr (inl o)) (b ∷ a ∷ es) = Binary o a b ∷ es
sign_on (inr (inr q)) [] = []
sign_on (inr (inr q)) (i ∷ es) = Element q.0 q.1 i ∷ es

abbrev signs_on : List Sign → List Expression → List Expression
signs_on [] es = es
signs_on (s ∷ ss) es = signs_on ss (sign_on s es)

abbrev first_expression : List Expression → Expression
first_expression [] = Variable 0
first_expression (e ∷ es) = e

pub signs_again : (e : Expression) (r : List Sign) (es : List Expression) → signs_on (signs_of e r) es ≡ signs_on r (e ∷ es)
signs_again (Number n) r es = refl
signs_again (Variable x) r es = refl
signs_again (Binary o a b) r es = signs_again a (signs_of b (inr (inl o) ∷ r)) es ∙ signs_again b (inr (inl o) ∷ r) (a ∷ es)
signs_again (Element f n i) r es = signs_again i (inr (inr (f, n)) ∷ r) es

abbrev expression_code : Coded Expression
expression_code =
    code_by (List Sign) (coded_list (coded⊎ (coded⊎ coded_ℤ coded_ℕ) (coded⊎ op_code (coded× coded_ℕ coded_ℕ)))) (λ e. signs_of e [])
    (λ ss. first_expression (signs_on ss [])) (λ e. ap first_expression (signs_again e [] []))

-- ---- commands

-- an end, or what a command writes beside the commands in it
abbrev Item : Type 0
Item =
    ((ℕ ⊎ Written) ⊎ ((Written × (ℕ × Expression)) ⊎ (Written × ((ℕ × ℕ) × (Expression × Expression)))))
    ⊎ (((Written × Expression) ⊎ (Written × Expression)) ⊎ ((Written × Expression) ⊎ (Written × ((ℕ × Option Label) × Expression))))

abbrev item_code : Coded Item
item_code =
    coded⊎
    (coded⊎ (coded⊎ coded_ℕ written_code) (coded⊎ (coded× written_code (coded× coded_ℕ expression_code))
    (coded× written_code (coded× (coded× coded_ℕ coded_ℕ) (coded× expression_code expression_code)))))
    (coded⊎ (coded⊎ (coded× written_code expression_code) (coded× written_code expression_code))
    (coded⊎ (coded× written_code expression_code) (coded× written_code (coded× (coded× coded_ℕ (coded_option label_code)) expression_code))))

abbrev items_of : Plan → List Item → List Item
items_of Done r = inl (inl (inl 0)) ∷ r
items_of (Skip w p) r = items_of p (inl (inl (inr w)) ∷ r)
items_of (Assign w x e p) r = items_of p (inl (inr (inl (w, (x, e)))) ∷ r)
items_of (Put w f n i e p) r = items_of p (inl (inr (inr (w, ((f, n), (i, e))))) ∷ r)
items_of (Sleep w e p) r = items_of p (inr (inl (inl (w, e))) ∷ r)
items_of (If w e a b p) r = items_of a (items_of b (items_of p (inr (inl (inr (w, e))) ∷ r)))
items_of (While w e c p) r = items_of c (items_of p (inr (inr (inl (w, e))) ∷ r))
items_of (Mitigate w k l e c p) r = items_of c (items_of p (inr (inr (inr (w, ((k, l), e)))) ∷ r))

abbrev item_on : Item → List Plan → List Plan
item_on (inl (inl (inl n))) ps = Done ∷ ps
item_on (inl (inl (inr w))) [] = []
item_on (inl (inl (inr w))) (p ∷ ps) = Skip w p ∷ ps
item_on (inl (inr (inl q))) [] = []
item_on (inl (inr (inl q))) (p ∷ ps) = Assign q.0 q.1.0 q.1.1 p ∷ ps
item_on (inl (inr (inr q))) [] = []
item_on (inl (inr (inr q))) (p ∷ ps) = Put q.0 q.1.0.0 q.1.0.1 q.1.1.0 q.1.1.1 p ∷ ps
item_on (inr (inl (inl q))) [] = []
item_on (inr (inl (inl q))) (p ∷ ps) = Sleep q.0 q.1 p ∷ ps
item_on (inr (inl (inr q))) [] = []
item_on (inr (inl (inr q))) (p ∷ []) = []
item_on (inr (inl (inr q))) (p ∷ b ∷ []) = []
item_on (inr (inl (inr q))) (p ∷ b ∷ a ∷ ps) = If q.0 q.1 a b p ∷ ps
item_on (inr (inr (inl q))) [] = []
item_on (inr (inr (inl q))) (p ∷ []) = []
item_on (inr (inr (inl q))) (p ∷ c ∷ ps) = While q.0 q.1 c p ∷ ps
item_on (inr (inr (inr q))) [] = []
item_on (inr (inr (inr q))) (p ∷ []) = []
item_on (inr (inr (inr q))) (p ∷ c ∷ ps) = Mitigate q.0 q.1.0.0 q.1.0.1 q.1.1 c p ∷ ps

abbrev items_on : List Item → List Plan → List Plan
items_on [] ps = ps
items_on (i ∷ is) ps = items_on is (item_on i ps)

abbrev first_plan : List Plan → Plan
first_plan [] = Done
first_plan (p ∷ ps) = p

pub items_again : (p : Plan) (r : List Item) (ps : List Plan) → items_on (items_of p r) ps ≡ items_on r (p ∷ ps)
items_again Done r ps = refl
items_again (Skip w p) r ps = items_again p (inl (inl (inr w)) ∷ r) ps
items_again (Assign w x e p) r ps = items_again p (inl (inr (inl (w, (x, e)))) ∷ r) ps
items_again (Put w f n i e p) r ps = items_again p (inl (inr (inr (w, ((f, n), (i, e))))) ∷ r) ps
items_again (Sleep w e p) r ps = items_again p (inr (inl (inl (w, e))) ∷ r) ps
items_again (If w e a b p) r ps =
    items_again a (items_of b (items_of p (inr (inl (inr (w, e))) ∷ r))) ps ∙ items_again b (items_of p (inr (inl (inr (w, e))) ∷ r)) (a ∷ ps)
    ∙ items_again p (inr (inl (inr (w, e))) ∷ r) (b ∷ a ∷ ps)
items_again (While w e c p) r ps = items_again c (items_of p (inr (inr (inl (w, e))) ∷ r)) ps ∙ items_again p (inr (inr (inl (w, e))) ∷ r) (c ∷ ps)
items_again (Mitigate w k l e c p) r ps = items_again c (items_of p (inr (inr (inr (w, ((k, l), e)))) ∷ r)) ps
    ∙ items_again p (inr (inr (inr (w, ((k, l), e)))) ∷ r) (c ∷ ps)

abbrev pub plan_code : Coded Plan
plan_code = code_by (List Item) (coded_list item_code) (λ p. items_of p []) (λ is. first_plan (items_on is [])) (λ p. ap first_plan (items_again p [] []))

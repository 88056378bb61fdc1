-- A program's variables are those of a memory with a value for each.
use Rattle.std.proofs.Common.{◌≡◌, ◌≤◌, ℕ, List, [], ◌∷◌, length, subst, refl, sym, ap, arith}
use Rattle.mit_syntax.specs.declared.ast.Command.{Command}
use Rattle.mit_syntax.specs.Expression.{Expression, Number, Variable, Binary, Element}
use Rattle.mit_syntax.specs.Todo.{Todo, Done, Skip, Assign, Put, Sleep, If, While, Mitigate, then_todo}
use Rattle.mit_syntax.specs.Plan.{Plan, list_plan}
use Rattle.mit_syntax.specs.Declarations.{Declaration, variables}
use Rattle.mit_syntax.specs.Program.{Syntax, plan_of}
use Rattle.mit_syntax.specs.Valid.{AreSome, IsValid, AreShaped, IsKnown, AreKnown}
use Rattle.mit_syntax.proofs.Facts.{scalar_below, array_below, array_some}
use Rattle.mit_syntax.proofs.Numbers.{few_cells}
use Rattle.source_meaning.proofs.Single.{All-one}
use Rattle.source_meaning.specs.InRange.{IsIn, AreIn}
use Rattle.source_meaning.specs.Frames.{IsFrame, IsGoing}

module _ (ds : List Declaration) (shaped : AreShaped ds) (n : ℕ) where
  known_in : (e : Expression) → IsKnown ds e → IsIn (variables ds) e
  known_in (Number z) k = tt
  known_in (Variable x) k = scalar_below ds k.0 x k.1
  known_in (Binary o l r) k = (known_in l k.0, known_in r k.1)
  known_in (Element f j i) k = ((array_some ds k.0.0 f j k.0.1 shaped, array_below ds k.0.0 f j k.0.1), known_in i k.1)

  all_known_in : (p : Plan) → AreKnown n ds p → AreIn (variables ds) p
  all_known_in Done h = tt
  all_known_in (Skip w p) h = all_known_in p h.1
  all_known_in (Assign w x e p) h = (scalar_below ds h.1.0 x h.1.1, known_in e h.2, all_known_in p h.3)
  all_known_in (Put w f j i e p) h =
      ((array_some ds h.1.0 f j h.1.1 shaped, array_below ds h.1.0 f j h.1.1), known_in i h.2, known_in e h.3, all_known_in p h.4)
  all_known_in (Sleep w e p) h = all_known_in p h.2
  all_known_in (If w e a b p) h = (known_in e h.1, (h.2, all_known_in a h.4), (h.3, all_known_in b h.5), all_known_in p h.6)
  all_known_in (While w e c p) h = (known_in e h.1, (h.2, all_known_in c h.3), all_known_in p h.4)
  all_known_in (Mitigate w k l e c p) h = ((h.3, all_known_in c h.4), all_known_in p h.5)

-- a program's variables are within
pub first_in : (s : Syntax) → IsValid s → AreIn (variables s.declarations) (plan_of s)
first_in s v = all_known_in s.declarations v.arrays s.order.size (plan_of s) v.known

-- a program's list and a memory begin a walk
pub going_first : (s : Syntax) (b : List Command) (k : ℕ) → list_plan b ≡ plan_of s → IsValid s → k ≡ variables s.declarations → IsGoing (b ∷ []) k
going_first s b k same v e =
    let few = few_cells s.declarations v.few in
    record {
      frames = All-one (IsFrame k) b
          (subst (λ (p : Plan). AreSome p × AreIn k p) (sym same) (v.some, subst (λ n. AreIn n (plan_of s)) (sym e) (first_in s v)));
      few = omega (arith, few, e);
    }

pub then_done : {M L : Type 0} (p : Todo M L) → then_todo p Done ≡ p
then_done Done = refl
then_done (Skip w p) = ap (Skip w) (then_done p)
then_done (Assign w x e p) = ap (Assign w x e) (then_done p)
then_done (Put w f n i e p) = ap (Put w f n i e) (then_done p)
then_done (Sleep w e p) = ap (Sleep w e) (then_done p)
then_done (If w e a b p) = ap (If w e a b) (then_done p)
then_done (While w e c p) = ap (While w e c) (then_done p)
then_done (Mitigate w k l e c p) = ap (Mitigate w k l e c) (then_done p)

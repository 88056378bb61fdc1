-- A walker's step, from that of its first command.
use Rattle.std.proofs.Common.{◌≡◌, List, [], ◌∷◌, ◌++◌, ◌<◌, length, ℕ, zero, suc, All, take, refl, sym, ap, ◌∙◌, subst, arith}
use Rattle.std.proofs.lemmas.List.{take-append-le, take_all}
use Rattle.std.specs.Prelude.{ℤ, Result, Ok, Err, IfOk}
use Rattle.mit_syntax.specs.declared.ast.Command.{Command}
use Rattle.mit_syntax.specs.Todo.{Done, Skip, Assign, Put, Sleep, If, While, Mitigate, then_todo}
use Rattle.mit_syntax.specs.Plan.{Plan, list_plan}
use Rattle.source_meaning.specs.Source.{source_act}
use Rattle.source_meaning.specs.declared.walk.Walk.{Walk}
use Rattle.source_meaning.specs.declared.walk.Walk.TheVariants.{Ended}
use Rattle.mit_syntax.specs.Valid.{AreSome}
use Rattle.source_meaning.specs.Frames.{without_last, todo_of, IsFrame, IsGoing}
use Rattle.source_meaning.specs.Walked.{Standing, told_by, source_at, IsStep}
use Rattle.source_meaning.proofs.Stacks.{todo_last}
use Rattle.source_meaning.proofs.Places.{All-last}

not_done : (p q : Plan) → AreSome p → then_todo p q ≡ Done → ⊥
not_done Done q h e = h
not_done (Skip w p) q h e = absurd cc
not_done (Assign w x i p) q h e = absurd cc
not_done (Put w f n j i p) q h e = absurd cc
not_done (Sleep w i p) q h e = absurd cc
not_done (If w i a b p) q h e = absurd cc
not_done (While w i c p) q h e = absurd cc
not_done (Mitigate w k l i c p) q h e = absurd cc

pub is_step : {R : Type 0} (fs : List (List Command)) (m : List ℤ) (list : List Command) (new : Standing) (r : Result Walk R)
    → fs ≡ without_last fs ++ list ∷ [] → AreSome (list_plan list) →
    IfOk r (λ walk. source_act (then_todo (list_plan list) (todo_of (without_last fs))) m [] ≡ source_at new (told_by walk))
    → IfOk r (λ walk. walk ≡ Ended → ⊥) →
    IfOk r (λ walk. IsStep (record { lists = fs; memory = m }) walk new)
is_step fs m list new (Err e) is some h told = tt
is_step fs m list new (Ok walk) is some h told =
    let todo : todo_of fs ≡ then_todo (list_plan list) (todo_of (without_last fs)) = ap todo_of is ∙ todo_last Done (without_last fs) list in
    record {
      step = ap (λ p. source_act p m []) todo ∙ h;
      ended = λ e. absurd (told e);
      going = λ e. absurd (not_done (list_plan list) (todo_of (without_last fs)) some (sym todo ∙ e));
    }

pub no_empty : (f : List Command) → AreSome (list_plan f) → length f < 1 → ⊥
no_empty [] h l = h
no_empty (c ∷ cs) h l = omega arith

pub positive : (n : ℕ) → (n ≡ 0 → ⊥) → 0 < n
positive zero h = absurd (h refl)
positive (suc n) h = omega arith

-- a walker's last list
pub framed : (fs : List (List Command)) (k : ℕ) (list : List Command) → IsGoing fs k → fs ≡ without_last fs ++ list ∷ [] → IsFrame k list
framed fs k list g e = All-last (IsFrame k) (without_last fs) list (subst (All (IsFrame k)) e g.frames)

-- what a vector has after its elements were lent
pub lent : {A : Type 0} (n : ℕ) (xs ys : List A) → length xs ≡ n → take n (xs ++ ys) ≡ xs
lent n xs ys e = take-append-le n xs ys (omega (arith, e)) ∙ take_all n xs (omega (arith, e))

-- What a walk over code finds of a place, a command at a time.
use Rattle.std.proofs.Common.{◌≡◌, ◌<◌, ◌≤◌, ℕ, ◌+◌, Bool, cond, Option, Some, None, sym, ap, subst, ◌∙◌, arith, lt-ltb, le-ltb}
use Rattle.std.proofs.Common.{List, length, get_or, drop}
use Rattle.text_base.specs.declared.pos.Pos.{Pos}
use Rattle.mit_syntax.specs.Expression.{Expression}
use Rattle.mit_syntax.specs.declared.ast.Command.{Command}
use Rattle.mit_syntax.specs.Todo.{If, While, Mitigate}
use Rattle.mit_syntax.specs.Plan.{Plan, Written, command_plan, list_plan}
use Rattle.label_lattice.specs.declared.label.Label.{Label}
use Rattle.timing_types.proofs.Parts.{cut}
use Rattle.code_lower.specs.Layout.{expr_size, size}
use Rattle.lab_steady.specs.declared.owner.Found.{Found}
use Rattle.lab_steady.specs.declared.owner.Found.TheVariants.{At, After}
use Rattle.lab_steady.specs.Owner.{own, or_else, owner, IsOwn, IsIn, IsPassed}

own_in : (w : Written) (b n : ℕ) (r : Option Pos) → n < b → own w b n r ≡ Some w.pos
own_in w b n r h = ap (λ (z : Bool). cond z (Some w.pos) r) (lt-ltb n b h)

own_past : (w : Written) (b n : ℕ) (r : Option Pos) → b ≤ n → own w b n r ≡ r
own_past w b n r h = ap (λ (z : Bool). cond z (Some w.pos) r) (le-ltb n b h)

else_is : (x y r : Option Pos) → x ≡ y → or_else x r ≡ or_else y r
else_is x y r e = ap (λ (z : Option Pos). or_else z r) e

-- a command that is one stretch of own code up to b
pub straight : (f : Plan → Plan) (w : Written) (a b n : ℕ) (x : Found) → ((rest : Plan) → owner (f rest) a n ≡ own w b n (owner rest b n))
    → ((rest : Plan) → a + size (f rest) ≡ b + size rest) → IsOwn w.pos b n x → IsPassed f a n x
straight f w a b n (At q) is long h = λ rest. is rest ∙ own_in w b n (owner rest b n) h.0 ∙ ap (λ (z : Pos). Some z) (sym h.1)
straight f w a b n (After c) is long h =
    let at : c ≡ b = h.0 in (
      subst (λ (z : ℕ). z ≤ n) (sym at) h.1,
      λ rest. (
        long rest ∙ ap (λ (z : ℕ). z + size rest) (sym at),
        is rest ∙ own_past w b n (owner rest b n) h.1 ∙ ap (λ (z : ℕ). owner rest z n) (sym at),
      ),
    )

-- a list after its first few commands
pub record Walked (cs : List Command) (a n i now : ℕ) : Type 0 where
  pub before : now ≤ n
  pub long : a + size (list_plan cs) ≡ now + size (list_plan (drop i cs))
  pub same : owner (list_plan cs) a n ≡ owner (list_plan (drop i cs)) now n

module _ (cs : List Command) (a n i now : ℕ) (c : Command) (lt : i < length cs) (is : c ≡ get_or cs i c) (h : Walked cs a n i now) where
  here : list_plan (drop i cs) ≡ command_plan c (list_plan (drop (i + 1) cs))
  here = ap list_plan (cut cs i c lt is)

  pub walk_on : (b : ℕ) → IsPassed (λ rest. command_plan c rest) now n (After b) → Walked cs a n (i + 1) b
  walk_on b k =
      let rest = list_plan (drop (i + 1) cs) in
      record {
        before = k.0;
        long = h.long ∙ ap (λ (z : Plan). now + size z) here ∙ (k.1 rest).0;
        same = h.same ∙ ap (λ (z : Plan). owner z now n) here ∙ (k.1 rest).1;
      }

  pub walk_found : (p : Pos) → IsPassed (λ rest. command_plan c rest) now n (At p) → owner (list_plan cs) a n ≡ Some p
  walk_found p k = h.same ∙ ap (λ (z : Plan). owner z now n) here ∙ k (list_plan (drop (i + 1) cs))

module _ (f : Plan → Plan) (w : Written) (e : Expression) (a n : ℕ) where
  abbrev B : ℕ
  B = a + expr_size e + 1

  -- ---- `if`

  module _ (c d : Plan) (is : (rest : Plan) → f rest ≡ If w e c d rest) where
    abbrev J : ℕ
    J = B + size c + 1

    if_is : (rest : Plan)
        → owner (f rest) a n ≡ own w B n (or_else (owner c B n) (own w J n (or_else (owner d J n) (owner rest (J + size d) n))))
    if_is rest = ap (λ (z : Plan). owner z a n) (is rest)

    pub if_guard : (q p : Pos) → IsOwn w.pos B n (At q) → p ≡ w.pos → IsPassed f a n (At p)
    if_guard q p h e = λ rest. if_is rest ∙ own_in w B n _ h.0 ∙ ap (λ (z : Pos). Some z) (sym e)

    pub if_then : (b : ℕ) (p : Pos) → IsOwn w.pos B n (After b) → IsIn c b n (At p) → IsPassed f a n (At p)
    if_then b p h k = λ rest. if_is rest ∙ own_past w B n _ h.1 ∙ else_is _ _ _ (subst (λ (z : ℕ). owner c z n ≡ Some p) h.0 k)

    module _ (b t : ℕ) (h : IsOwn w.pos B n (After b)) (k : IsIn c b n (After t)) where
      none : owner c B n ≡ None
      none = subst (λ (z : ℕ). owner c z n ≡ None) h.0 k.2

      at_jump : t + 1 ≡ J
      at_jump = let x : b ≡ B = h.0 in let y : t ≡ b + size c = k.1 in omega (arith, x, y)

      past_then : (rest : Plan) → owner (f rest) a n ≡ own w J n (or_else (owner d J n) (owner rest (J + size d) n))
      past_then rest = if_is rest ∙ own_past w B n _ h.1 ∙ else_is _ _ _ none

      pub if_jump : (q p : Pos) → IsOwn w.pos (t + 1) n (At q) → p ≡ w.pos → IsPassed f a n (At p)
      if_jump q p m e = λ rest. past_then rest ∙ own_in w J n _ (subst (λ (z : ℕ). n < z) at_jump m.0) ∙ ap (λ (z : Pos). Some z) (sym e)

      module _ (j : ℕ) (m : IsOwn w.pos (t + 1) n (After j)) where
        at_else : j ≡ J
        at_else = m.0 ∙ at_jump

        past_jump : (rest : Plan) → owner (f rest) a n ≡ or_else (owner d J n) (owner rest (J + size d) n)
        past_jump rest = past_then rest ∙ own_past w J n _ (subst (λ (z : ℕ). z ≤ n) at_jump m.1)

        pub if_else : (x : Found) → IsIn d j n x → IsPassed f a n x
        if_else (At p) l = λ rest. past_jump rest ∙ else_is _ _ _ (subst (λ (z : ℕ). owner d z n ≡ Some p) at_else l)
        if_else (After y) l =
            let end : y ≡ J + size d = l.1 ∙ ap (λ (z : ℕ). z + size d) at_else in (
              l.0,
              λ rest. (
                (let s : size (f rest) ≡ size (If w e c d rest) = ap size (is rest) in omega (arith, s, end)),
                past_jump rest ∙ else_is _ _ _ (subst (λ (z : ℕ). owner d z n ≡ None) at_else l.2) ∙ ap (λ (z : ℕ). owner rest z n) (sym end),
              ),
            )

  -- ---- `while`

  module _ (c : Plan) (is : (rest : Plan) → f rest ≡ While w e c rest) where
    abbrev Q : ℕ
    Q = B + size c + expr_size e + 1

    while_is : (rest : Plan) → owner (f rest) a n ≡ own w B n (or_else (owner c B n) (own w Q n (owner rest Q n)))
    while_is rest = ap (λ (z : Plan). owner z a n) (is rest)

    pub while_guard : (q p : Pos) → IsOwn w.pos B n (At q) → p ≡ w.pos → IsPassed f a n (At p)
    while_guard q p h e = λ rest. while_is rest ∙ own_in w B n _ h.0 ∙ ap (λ (z : Pos). Some z) (sym e)

    pub while_body : (b : ℕ) (p : Pos) → IsOwn w.pos B n (After b) → IsIn c b n (At p) → IsPassed f a n (At p)
    while_body b p h k = λ rest. while_is rest ∙ own_past w B n _ h.1 ∙ else_is _ _ _ (subst (λ (z : ℕ). owner c z n ≡ Some p) h.0 k)

    pub while_again : (b t : ℕ) (x : Found) → IsOwn w.pos B n (After b) → IsIn c b n (After t) → IsOwn w.pos (t + expr_size e + 1) n x → IsPassed f a n x
    while_again b t x h k m =
        let at : t + expr_size e + 1 ≡ Q = (let x : b ≡ B = h.0 in let y : t ≡ b + size c = k.1 in omega (arith, x, y)) in
        straight f w a Q n x
        (λ rest. while_is rest ∙ own_past w B n _ h.1 ∙ else_is _ _ _ (subst (λ (z : ℕ). owner c z n ≡ None) h.0 k.2))
        (λ rest. let s : size (f rest) ≡ size (While w e c rest) = ap size (is rest) in omega (arith, s))
        (subst (λ (z : ℕ). IsOwn w.pos z n x) at m)

  -- ---- `mitigate`

  module _ (k : ℕ) (l : Option Label) (c : Plan) (is : (rest : Plan) → f rest ≡ Mitigate w k l e c rest) where
    abbrev M : ℕ
    M = B + size c + 1

    mitigate_is : (rest : Plan) → owner (f rest) a n ≡ own w B n (or_else (owner c B n) (own w M n (owner rest M n)))
    mitigate_is rest = ap (λ (z : Plan). owner z a n) (is rest)

    pub mitigate_estimate : (q p : Pos) → IsOwn w.pos B n (At q) → p ≡ w.pos → IsPassed f a n (At p)
    mitigate_estimate q p h e = λ rest. mitigate_is rest ∙ own_in w B n _ h.0 ∙ ap (λ (z : Pos). Some z) (sym e)

    pub mitigate_body : (b : ℕ) (p : Pos) → IsOwn w.pos B n (After b) → IsIn c b n (At p) → IsPassed f a n (At p)
    mitigate_body b p h m = λ rest. mitigate_is rest ∙ own_past w B n _ h.1 ∙ else_is _ _ _ (subst (λ (z : ℕ). owner c z n ≡ Some p) h.0 m)

    pub mitigate_end : (b t : ℕ) (x : Found) → IsOwn w.pos B n (After b) → IsIn c b n (After t) → IsOwn w.pos (t + 1) n x → IsPassed f a n x
    mitigate_end b t x h m o =
        let at : t + 1 ≡ M = (let x : b ≡ B = h.0 in let y : t ≡ b + size c = m.1 in omega (arith, x, y)) in
        straight f w a M n x
        (λ rest. mitigate_is rest ∙ own_past w B n _ h.1 ∙ else_is _ _ _ (subst (λ (z : ℕ). owner c z n ≡ None) h.0 m.2))
        (λ rest. let s : size (f rest) ≡ size (Mitigate w k l e c rest) = ap size (is rest) in omega (arith, s))
        (subst (λ (z : ℕ). IsOwn w.pos z n x) at o)

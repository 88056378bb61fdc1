-- Counts of commands.
use Rattle.std.proofs.Common.{◌≡◌, ap, sym, ◌∙◌, ℕ, ◌+◌, ◌<◌, ◌≤◌, arith, List, ◌∷◌, length, drop, get_or, Option, Vec, Global}
use Rattle.std.proofs.lemmas.List.{drop_more, drop_all}
use Rattle.label_lattice.specs.declared.label.Label.{Label}
use Rattle.mit_syntax.specs.declared.ast.Expr.{Expr}
use Rattle.mit_syntax.specs.declared.ast.Form.{While as DWhile, If as DIf, Mitigate as DMitigate}
use Rattle.mit_syntax.specs.declared.count.Counts.{Counts}
use Rattle.mit_syntax.specs.Expression.{expression_of}
use Rattle.mit_syntax.specs.Counted.{IsCount}
use Rattle.mit_syntax.specs.declared.ast.Form.{Form, Skip as FSkip, Assign as FAssign, Put as FPut, Sleep as FSleep, If' as FIf, While' as FWhile}
use Rattle.mit_syntax.specs.declared.ast.Form.{Mitigate' as FMitigate}
use Rattle.mit_syntax.specs.declared.ast.Command.{Command}
use Rattle.mit_syntax.specs.Todo.{Todo, Done, Skip, Assign, Put, Sleep, If, While, Mitigate}
use Rattle.mit_syntax.specs.Plan.{Plan, Written, form_plan, list_plan, command_plan, count, mitigates, plan-If, plan-While, plan-Mitigate}

pub count-form : (f : Form) (w : Written) (rest : Plan) → count (form_plan f w rest) ≡ count (form_plan f w Done) + count rest
count-form FSkip w rest = omega arith
count-form (FAssign x e) w rest = omega arith
count-form (FPut a n i e) w rest = omega arith
count-form (FSleep e) w rest = omega arith
count-form (FIf e s a s' b) w rest = omega arith
count-form (FWhile e s c) w rest = omega arith
count-form (FMitigate k e l s c) w rest = omega arith

pub mitigates-form : (f : Form) (w : Written) (rest : Plan) → mitigates (form_plan f w rest) ≡ mitigates (form_plan f w Done) + mitigates rest
mitigates-form FSkip w rest = omega arith
mitigates-form (FAssign x e) w rest = omega arith
mitigates-form (FPut a n i e) w rest = omega arith
mitigates-form (FSleep e) w rest = omega arith
mitigates-form (FIf e s a s' b) w rest = omega arith
mitigates-form (FWhile e s c) w rest = omega arith
mitigates-form (FMitigate k e l s c) w rest = omega arith

pub count-more : (c : Command) (cs : List Command) → count (list_plan (c ∷ cs)) ≡ count (command_plan c Done) + count (list_plan cs)
count-more c cs = count-form c.form (record { pos = c.pos; labels = c.labels }) (list_plan cs)

pub mitigates-more : (c : Command) (cs : List Command) → mitigates (list_plan (c ∷ cs)) ≡ mitigates (command_plan c Done) + mitigates (list_plan cs)
mitigates-more c cs = mitigates-form c.form (record { pos = c.pos; labels = c.labels }) (list_plan cs)

pub mitigates_below : {M L : Type 0} → (p : Todo M L) → mitigates p ≤ count p
mitigates_below Done = omega arith
mitigates_below (Skip m p) = let r = mitigates_below p in omega (arith, r)
mitigates_below (Assign m x e p) = let r = mitigates_below p in omega (arith, r)
mitigates_below (Put m a n i e p) = let r = mitigates_below p in omega (arith, r)
mitigates_below (Sleep m e p) = let r = mitigates_below p in omega (arith, r)
mitigates_below (If m e a b p) = let r = mitigates_below a in let s = mitigates_below b in let t = mitigates_below p in omega (arith, r, s, t)
mitigates_below (While m e c p) = let r = mitigates_below c in let t = mitigates_below p in omega (arith, r, t)
mitigates_below (Mitigate m k l e c p) = let r = mitigates_below c in let t = mitigates_below p in omega (arith, r, t)

-- the counts of a command with lists inside
module _ (k : Command) (e : Expr) (v : Vec Command Global) where
  pub if_plan : (u : Vec Command Global) → k.form ≡ DIf e v u
      → command_plan k Done ≡ If (record { pos = k.pos; labels = k.labels }) (expression_of e) (list_plan v.items) (list_plan u.items) Done
  if_plan u h = ap (λ f. form_plan f (record { pos = k.pos; labels = k.labels }) Done) h ∙ plan-If e v u (record { pos = k.pos; labels = k.labels }) Done

  pub while_plan : k.form ≡ DWhile e v → command_plan k Done ≡ While (record { pos = k.pos; labels = k.labels }) (expression_of e) (list_plan v.items) Done
  while_plan h = ap (λ f. form_plan f (record { pos = k.pos; labels = k.labels }) Done) h ∙ plan-While e v (record { pos = k.pos; labels = k.labels }) Done

  pub mitigate_plan : (m : ℕ) (l : Option Label) → k.form ≡ DMitigate m e l v
      → command_plan k Done ≡ Mitigate (record { pos = k.pos; labels = k.labels }) m l (expression_of e) (list_plan v.items) Done
  mitigate_plan m l h = ap (λ f. form_plan f (record { pos = k.pos; labels = k.labels }) Done) h
      ∙ plan-Mitigate m e l v (record { pos = k.pos; labels = k.labels }) Done

pub front_of : (list : List Command) (x : Command) (i : ℕ) → i < length list → x ≡ get_or list i x → drop i list ≡ x ∷ drop (i + 1) list
front_of list x i h e = drop_more list i x h ∙ ap (λ y. y ∷ drop (i + 1) list) (sym e)

-- a list's counts, once this many commands are counted
pub record CountedSoFar (c : Counts) (i : ℕ) (list : List Command) : Type 0 where
  pub commands : c.commands + count (list_plan (drop i list)) ≡ count (list_plan list)
  pub mitigates : c.mitigates + mitigates (list_plan (drop i list)) ≡ mitigates (list_plan list)

module _ (list : List Command) (x : Command) (i : ℕ) (h : i < length list) (e : x ≡ get_or list i x) where
  pub count_front : count (list_plan (drop i list)) ≡ count (command_plan x Done) + count (list_plan (drop (i + 1) list))
  count_front = ap (λ l. count (list_plan l)) (front_of list x i h e) ∙ count-more x (drop (i + 1) list)

  pub mitigates_front : mitigates (list_plan (drop i list)) ≡ mitigates (command_plan x Done) + mitigates (list_plan (drop (i + 1) list))
  mitigates_front = ap (λ l. mitigates (list_plan l)) (front_of list x i h e) ∙ mitigates-more x (drop (i + 1) list)

pub all_counted : (c : Counts) (i : ℕ) (list : List Command) → length list ≤ i → CountedSoFar c i list → IsCount c (list_plan list)
all_counted c i list h s =
    let a : count (list_plan (drop i list)) ≡ 0 = ap (λ l. count (list_plan l)) (drop_all i list h) in
    let b : mitigates (list_plan (drop i list)) ≡ 0 = ap (λ l. mitigates (list_plan l)) (drop_all i list h) in
    let x = s.commands in
    let y = s.mitigates in
    record { commands = omega (arith, a, x); mitigates = omega (arith, b, y) }

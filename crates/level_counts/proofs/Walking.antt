-- What the walk finds is whether relevant mitigates stand apart.
use Rattle.std.proofs.Common.{◌≡◌, ℕ, List, Bool, true, false, refl, sym, ap, ◌∙◌}
use Rattle.std.specs.Prelude.{not, ◌&&◌, ◌||◌, Option, slice_index_or}
use Rattle.std.proofs.lemmas.Bool.{and_parts, and_from, both_ways}
use Rattle.label_lattice.specs.declared.label.Label.{Label}
use Rattle.mit_syntax.specs.Expression.{Expression}
use Rattle.mit_syntax.specs.declared.ast.Command.{Command}
use Rattle.mit_syntax.specs.Plan.{Written, Plan, list_plan}
use Rattle.mit_syntax.specs.Program.{Syntax, plan_of}
use Rattle.mit_syntax.specs.Todo.{Todo, Done, Skip, Assign, Put, Sleep, If, While, Mitigate, commands_of}
use Rattle.timing_types.specs.Labelled.{LabelledProgram, order_of, labels_of, levels_of}
use Rattle.leak_bound.specs.Relevant.{relevances, is_relevant}
use Rattle.sharp_bound.specs.Shared.{NoneRelevant, StandApart}
use Rattle.level_counts.specs.Apart.{finds_apart}

-- ---- a command before the rest of its list

and_assoc : (x y z : Bool) → (x && (y && z)) ≡ ((x && y) && z)
and_assoc true y z = refl
and_assoc false y z = refl

module _ (rel : ℕ → Bool) (inside : Bool) (w : Written) (e : Expression) (q rest : Plan) where
  pub if_apart : (a b : Plan) (x y : Bool) → q ≡ If w e a b rest → x ≡ finds_apart rel inside a → y ≡ finds_apart rel inside b
      → finds_apart rel inside q ≡ ((x && y) && finds_apart rel inside rest)
  if_apart a b x y is hx hy =
      ap (finds_apart rel inside) is
      ∙ ap (λ z. z && (finds_apart rel inside b && finds_apart rel inside rest)) (sym hx)
      ∙ ap (λ z. x && (z && finds_apart rel inside rest)) (sym hy)
      ∙ and_assoc x y (finds_apart rel inside rest)

  pub while_apart : (c : Plan) (x : Bool) → q ≡ While w e c rest → x ≡ finds_apart rel inside c
      → finds_apart rel inside q ≡ (x && finds_apart rel inside rest)
  while_apart c x is hx = ap (finds_apart rel inside) is ∙ ap (λ z. z && finds_apart rel inside rest) (sym hx)

  pub mitigate_apart : (k : ℕ) (l : Option Label) (c : Plan) (x y : Bool) → q ≡ Mitigate w k l e c rest → y ≡ rel k
      → x ≡ finds_apart rel (inside || y) c → finds_apart rel inside q ≡ ((not (inside && y) && x) && finds_apart rel inside rest)
  mitigate_apart k l c x y is hy hx =
      ap (finds_apart rel inside) is
      ∙ ap (λ z. not (inside && z) && (finds_apart rel (inside || z) c && finds_apart rel inside rest)) (sym hy)
      ∙ ap (λ z. not (inside && y) && (z && finds_apart rel inside rest)) (sym hx)
      ∙ and_assoc (not (inside && y)) x (finds_apart rel inside rest)

-- ---- the walk finds it exactly

is_not : (x : Bool) → not x ≡ true → x ≡ false
is_not false e = refl
is_not true e = absurd (both_ways false refl e)

none_apart : {M L : Type 0} (rel : ℕ → Bool) (p : Todo M L) → NoneRelevant rel p → StandApart rel p
none_apart rel Done h = tt
none_apart rel (Skip m r) h = none_apart rel r h
none_apart rel (Assign m x e r) h = none_apart rel r h
none_apart rel (Put m f n i e r) h = none_apart rel r h
none_apart rel (Sleep m e r) h = none_apart rel r h
none_apart rel (If m e a b r) h = (none_apart rel a h.0, none_apart rel b h.1, none_apart rel r h.2)
none_apart rel (While m e c r) h = (none_apart rel c h.0, none_apart rel r h.1)
none_apart rel (Mitigate m k l e c r) h = ((λ q. h.1), none_apart rel c h.1, none_apart rel r h.2)

module _ {M L : Type 0} (rel : ℕ → Bool) where
  found_none : (p : Todo M L) → finds_apart rel true p ≡ true → NoneRelevant rel (commands_of p)
  found_none Done h = tt
  found_none (Skip m r) h = found_none r h
  found_none (Assign m x e r) h = found_none r h
  found_none (Put m f n i e r) h = found_none r h
  found_none (Sleep m e r) h = found_none r h
  found_none (If m e a b r) h =
      let one = and_parts (finds_apart rel true a) (finds_apart rel true b && finds_apart rel true r) h in
      let two = and_parts (finds_apart rel true b) (finds_apart rel true r) one.1 in
      (found_none a one.0, found_none b two.0, found_none r two.1)
  found_none (While m e c r) h =
      let one = and_parts (finds_apart rel true c) (finds_apart rel true r) h in
      (found_none c one.0, found_none r one.1)
  found_none (Mitigate m k l e c r) h =
      let one = and_parts (not (rel k)) (finds_apart rel true c && finds_apart rel true r) h in
      let two = and_parts (finds_apart rel true c) (finds_apart rel true r) one.1 in
      (is_not (rel k) one.0, found_none c two.0, found_none r two.1)

  none_found : (p : Todo M L) → NoneRelevant rel (commands_of p) → finds_apart rel true p ≡ true
  none_found Done h = refl
  none_found (Skip m r) h = none_found r h
  none_found (Assign m x e r) h = none_found r h
  none_found (Put m f n i e r) h = none_found r h
  none_found (Sleep m e r) h = none_found r h
  none_found (If m e a b r) h =
      and_from (finds_apart rel true a) (finds_apart rel true b && finds_apart rel true r) (none_found a h.0)
      (and_from (finds_apart rel true b) (finds_apart rel true r) (none_found b h.1) (none_found r h.2))
  none_found (While m e c r) h = and_from (finds_apart rel true c) (finds_apart rel true r) (none_found c h.0) (none_found r h.1)
  none_found (Mitigate m k l e c r) h =
      and_from (not (rel k)) (finds_apart rel true c && finds_apart rel true r) (ap not h.0)
      (and_from (finds_apart rel true c) (finds_apart rel true r) (none_found c h.1) (none_found r h.2))

  pub found_apart : (p : Todo M L) → finds_apart rel false p ≡ true → StandApart rel (commands_of p)
  found_apart Done h = tt
  found_apart (Skip m r) h = found_apart r h
  found_apart (Assign m x e r) h = found_apart r h
  found_apart (Put m f n i e r) h = found_apart r h
  found_apart (Sleep m e r) h = found_apart r h
  found_apart (If m e a b r) h =
      let one = and_parts (finds_apart rel false a) (finds_apart rel false b && finds_apart rel false r) h in
      let two = and_parts (finds_apart rel false b) (finds_apart rel false r) one.1 in
      (found_apart a one.0, found_apart b two.0, found_apart r two.1)
  found_apart (While m e c r) h =
      let one = and_parts (finds_apart rel false c) (finds_apart rel false r) h in
      (found_apart c one.0, found_apart r one.1)
  found_apart (Mitigate m k l e c r) h =
      let one = and_parts (finds_apart rel (rel k) c) (finds_apart rel false r) h in
      let both = go (rel k) refl one.0 (found_apart c) in
      (both.0, both.1, found_apart r one.1)
    where
      go : (b : Bool) → rel k ≡ b → finds_apart rel b c ≡ true → (finds_apart rel false c ≡ true → StandApart rel (commands_of c))
          → (rel k ≡ true → NoneRelevant rel (commands_of c)) × StandApart rel (commands_of c)
      go true e f rec = let none = found_none c f in ((λ t. none), none_apart rel (commands_of c) none)
      go false e f rec = ((λ t. absurd (both_ways (rel k) e t)), rec f)

  pub apart_found : (p : Todo M L) → StandApart rel (commands_of p) → finds_apart rel false p ≡ true
  apart_found Done h = refl
  apart_found (Skip m r) h = apart_found r h
  apart_found (Assign m x e r) h = apart_found r h
  apart_found (Put m f n i e r) h = apart_found r h
  apart_found (Sleep m e r) h = apart_found r h
  apart_found (If m e a b r) h =
      and_from (finds_apart rel false a) (finds_apart rel false b && finds_apart rel false r) (apart_found a h.0)
      (and_from (finds_apart rel false b) (finds_apart rel false r) (apart_found b h.1) (apart_found r h.2))
  apart_found (While m e c r) h = and_from (finds_apart rel false c) (finds_apart rel false r) (apart_found c h.0) (apart_found r h.1)
  apart_found (Mitigate m k l e c r) h =
      and_from (finds_apart rel (rel k) c) (finds_apart rel false r) (go (rel k) refl (apart_found c h.1)) (apart_found r h.2)
    where
      go : (b : Bool) → rel k ≡ b → finds_apart rel false c ≡ true → finds_apart rel b c ≡ true
      go true e rec = none_found c (h.0 e)
      go false e rec = rec

-- ---- of a typed program, as code reads its parts

module _ (p : LabelledProgram) (s : Syntax) (o : ℕ) (relevant : List Bool) (cs : List Command) (b : Bool) (hs : s ≡ p.program)
    (hc : list_plan cs ≡ plan_of s)
    (hr : relevant ≡ relevances (order_of p) (labels_of p) (levels_of p) o (order_of p).bottom (plan_of p.program))
    (hb : b ≡ finds_apart (λ k. slice_index_or relevant k false) false (list_plan cs)) where
  abbrev rel_of : ℕ → Bool
  rel_of = is_relevant (order_of p) (labels_of p) (levels_of p) o (plan_of p.program)

  found_is : b ≡ finds_apart rel_of false (plan_of p.program)
  found_is =
      hb ∙ ap (λ z. finds_apart (λ k. slice_index_or z k false) false (list_plan cs)) hr
      ∙ ap (finds_apart rel_of false) (hc ∙ ap (λ (z : Syntax). plan_of z) hs)

  pub are_apart : b ≡ true → StandApart rel_of (commands_of (plan_of p.program))
  are_apart h = found_apart rel_of (plan_of p.program) (sym found_is ∙ h)

  pub not_apart : b ≡ false → StandApart rel_of (commands_of (plan_of p.program)) → ⊥
  not_apart h a = both_ways b h (found_is ∙ apart_found rel_of (plan_of p.program) a)

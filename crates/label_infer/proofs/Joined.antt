-- Joined forms, and the ends and conditions of one command.
use Rattle.std.proofs.Common.{◌≡◌, ℕ, sym, ap, ◌∙◌, List, [], ◌∷◌, ◌++◌, append_assoc, append-nil, Option, None, Some}
use Rattle.std.specs.Prelude.{true, false, cond, eqb, is_none, Result, Ok, Err, IfOk}
use Rattle.timing_types.specs.Walk.{OfVariable}
use Rattle.label_lattice.specs.declared.label.Label.{Label}
use Rattle.label_lattice.specs.Lattice.{Lattice}
use Rattle.mit_syntax.specs.Expression.{Expression}
use Rattle.mit_syntax.specs.Todo.{Put, If, While, Mitigate}
use Rattle.mit_syntax.specs.Plan.{Written, Plan}
use Rattle.timing_types.specs.declared.rule.Rule.TheVariants.{Mtg as RMtg}
use Rattle.timing_types.specs.Left.{Demand, OfLevel as AtLevel, asks}
use Rattle.timing_types.specs.OneWalk as walk
use Rattle.label_infer.specs.declared.written_labels.Known.{Known}
use Rattle.label_infer.specs.Constraints.{LeftSide, Constraint, both, fixed, variable_form, form_sides, omitted, set_constraint, level_constraint, label_or}
use Rattle.label_infer.specs.ConstraintsOf.{written_at, free_of, written_of, lat_of, end_of, constraints_from, inner_of, after_of, put_after, set_of}
use Rattle.label_infer.proofs.OfForms.{omitted_append}

-- of what an Ok holds
pub if_ok : {T E : Type 0} {P Q : T → Type 0} (r : Result T E) → ((x : T) → P x → Q x) → IfOk r P → IfOk r Q
if_ok (Ok x) f h = f x h
if_ok (Err e) f h = h

pub both_is : (lat : Lattice) (f f' h h' r : LeftSide) → r ≡ both lat f h → f ≡ f' → h ≡ h' → r ≡ both lat f' h'
both_is lat f f' h h' r e p q = e ∙ ap (λ z. both lat z h) p ∙ ap (both lat f') q

-- the form of a variable, by what is written of it
pub omitted_form : (k : Known) (x : ℕ) (r : LeftSide) → written_at k x ≡ None → r ≡ record { base = (lat_of k).bottom; has = λ y. eqb x y }
    → r ≡ variable_form (lat_of k) (free_of k) (written_of k) x
omitted_form k x r h e = e ∙ sym (ap (λ o. cond (is_none o) (record { base = (lat_of k).bottom; has = λ y. eqb x y }) (fixed (written_of k x))) h)

pub given_form : (k : Known) (x : ℕ) (l : Label) (r : LeftSide) → written_at k x ≡ Some l → r ≡ fixed l.number
    → r ≡ variable_form (lat_of k) (free_of k) (written_of k) x
given_form k x l r h e =
    let one : LeftSide = record { base = (lat_of k).bottom; has = λ y. eqb x y } in
    e ∙ sym (ap (λ o. cond (is_none o) one (fixed (label_or o k.order.now.bottom))) h)

-- the condition on a variable's label
pub set_omitted : (k : Known) (x : ℕ) (d : LeftSide) (m0 m1 : List Constraint) → is_none (written_at k x) ≡ true
    → m1 ≡ m0 ++ record { have = d; side = OfVariable x } ∷ [] → m1 ≡ m0 ++ set_of k x d
set_omitted k x d m0 m1 h e = e ∙ ap (λ b. m0 ++ set_constraint b x d) (sym h)

pub set_given : (k : Known) (x : ℕ) (d : LeftSide) (m : List Constraint) → is_none (written_at k x) ≡ false → m ≡ m ++ set_of k x d
set_given k x d m h = sym (append-nil m) ∙ ap (λ b. m ++ set_constraint b x d) (sym h)

module _ (k : Known) (w : Written) (t : LeftSide) where
  abbrev E : Plan → LeftSide → LeftSide
  E = end_of k

  pub put_end : (f n : ℕ) (i e : Expression) (q rest : Plan) (r : LeftSide) → q ≡ Put w f n i e rest → r ≡ put_after k w.labels t f i e → E q t ≡ E rest r
  put_end f n i e q rest r hq hr = ap (λ z. E z t) hq ∙ ap (E rest) (sym hr)

  pub if_end : (e : Expression) (q a b rest : Plan) (start one other r : LeftSide) → q ≡ If w e a b rest → start ≡ after_of k w.labels t e
      → one ≡ E a start → other ≡ E b start → r ≡ both (lat_of k) one other → E q t ≡ E rest r
  if_end e q a b rest start one other r hq hs h1 h2 hr =
      let s = after_of k w.labels t e in
      ap (λ z. E z t) hq ∙ ap (E rest) (sym (both_is (lat_of k) one (E a s) other (E b s) r hr (h1 ∙ ap (E a) hs) (h2 ∙ ap (E b) hs)))

  pub while_end : (e : Expression) (q a rest : Plan) (start r : LeftSide) → q ≡ While w e a rest → start ≡ after_of k w.labels t e → r ≡ E a start
      → E q t ≡ E rest r
  while_end e q a rest start r hq hs hr = ap (λ z. E z t) hq ∙ ap (E rest) (sym (hr ∙ ap (E a) hs))

  module _ (pc : LeftSide) where
    abbrev N : Plan → LeftSide → LeftSide → List Constraint
    N = constraints_from k

    abbrev D : Plan → LeftSide → LeftSide → List (Demand LeftSide Written (Option Label))
    D = walk.demands (form_sides (lat_of k) (free_of k) (written_of k))

    abbrev kept : List (Demand LeftSide Written (Option Label)) → List Constraint
    kept = omitted (lat_of k) (free_of k) (written_of k)

    append : (xs ys : List (Demand LeftSide Written (Option Label))) → kept (xs ++ ys) ≡ kept xs ++ kept ys
    append = omitted_append (lat_of k) (free_of k) (written_of k)

    -- an assignment
    pub set_constraints : (x : ℕ) (q rest : Plan) (d n have r : LeftSide) (m0 m1 : List Constraint) → N q pc t ≡ set_of k x d ++ N rest pc n
        → have ≡ d → r ≡ n → m1 ≡ m0 ++ set_of k x have → m0 ++ N q pc t ≡ m1 ++ N rest pc r
    set_constraints x q rest d n have r m0 m1 hq hh hr hm =
        ap (λ z. m0 ++ z) hq
        ∙ ap (λ z. m0 ++ (set_of k x z ++ N rest pc n)) (sym hh)
        ∙ sym (append_assoc m0 (set_of k x have) (N rest pc n))
        ∙ ap (λ z. z ++ N rest pc n) (sym hm) ∙ ap (λ z. m1 ++ N rest pc z) (sym hr)

    pub if_constraints : (e : Expression) (q a b rest : Plan) (inner start one other r : LeftSide) (m0 m1 m2 : List Constraint) → q ≡ If w e a b rest
        → inner ≡ inner_of k pc e → start ≡ after_of k w.labels t e → one ≡ E a start → other ≡ E b start → r ≡ both (lat_of k) one other
        → m1 ≡ m0 ++ N a inner start → m2 ≡ m1 ++ N b inner start → m0 ++ N q pc t ≡ m2 ++ N rest pc r
    if_constraints e q a b rest inner start one other r m0 m1 m2 hq hi hs h1 h2 hr hm1 hm2 =
        let i = inner_of k pc e in
        let s = after_of k w.labels t e in
        let v = both (lat_of k) (E a s) (E b s) in
        let end : r ≡ v = both_is (lat_of k) one (E a s) other (E b s) r hr (h1 ∙ ap (E a) hs) (h2 ∙ ap (E b) hs) in
        let n : (p : Plan) → N p i s ≡ N p inner start = λ p. sym (ap (λ z. N p z start) hi ∙ ap (N p i) hs) in
        ap (λ z. m0 ++ N z pc t) hq
        ∙ ap (λ z. m0 ++ z) (append (D a i s) (D b i s ++ D rest pc v) ∙ ap (λ z. N a i s ++ z) (append (D b i s) (D rest pc v)))
        ∙ ap (λ z. m0 ++ (N a i s ++ (N b i s ++ N rest pc z))) (sym end)
        ∙ ap (λ z. m0 ++ (z ++ (N b i s ++ N rest pc r))) (n a)
        ∙ sym (append_assoc m0 (N a inner start) (N b i s ++ N rest pc r))
        ∙ ap (λ z. z ++ (N b i s ++ N rest pc r)) (sym hm1)
        ∙ ap (λ z. m1 ++ (z ++ N rest pc r)) (n b)
        ∙ sym (append_assoc m1 (N b inner start) (N rest pc r))
        ∙ ap (λ z. z ++ N rest pc r) (sym hm2)

    pub while_constraints : (e : Expression) (q a rest : Plan) (inner start stay : LeftSide) (m0 m1 : List Constraint) → q ≡ While w e a rest
        → inner ≡ inner_of k pc e → start ≡ after_of k w.labels t e → stay ≡ E a start → m1 ≡ m0 ++ N a inner stay
        → m0 ++ N q pc t ≡ m1 ++ N rest pc stay
    while_constraints e q a rest inner start stay m0 m1 hq hi hs hr hm =
        let i = inner_of k pc e in
        let v = E a (after_of k w.labels t e) in
        let end : stay ≡ v = hr ∙ ap (E a) hs in
        ap (λ z. m0 ++ N z pc t) hq
        ∙ ap (λ z. m0 ++ z) (append (D a i v) (D rest pc v))
        ∙ ap (λ z. m0 ++ (N a i z ++ N rest pc z)) (sym end)
        ∙ ap (λ z. m0 ++ (N a z stay ++ N rest pc stay)) (sym hi)
        ∙ sym (append_assoc m0 (N a inner stay) (N rest pc stay))
        ∙ ap (λ z. z ++ N rest pc stay) (sym hm)

    pub mitigate_constraints : (j : ℕ) (l : Option Label) (e : Expression) (q a rest : Plan) (start end : LeftSide) (m0 m1 m2 : List Constraint)
        → q ≡ Mitigate w j l e a rest → start ≡ after_of k w.labels t e → end ≡ E a start → m1 ≡ m0 ++ N a pc start
        → m2 ≡ m1 ++ level_constraint l j end → m0 ++ N q pc t ≡ m2 ++ N rest pc start
    mitigate_constraints j l e q a rest start end m0 m1 m2 hq hs he h1 h2 =
        let s = after_of k w.labels t e in
        ap (λ z. m0 ++ N z pc t) hq
        ∙ ap (λ z. m0 ++ z) (append (D a pc s) (asks RMtg w (E a s) (AtLevel j l) ∷ D rest pc s))
        ∙ ap (λ z. m0 ++ (N a pc z ++ (level_constraint l j (E a z) ++ N rest pc z))) (sym hs)
        ∙ sym (append_assoc m0 (N a pc start) (level_constraint l j (E a start) ++ N rest pc start))
        ∙ ap (λ z. z ++ (level_constraint l j (E a start) ++ N rest pc start)) (sym h1)
        ∙ ap (λ z. m1 ++ (level_constraint l j z ++ N rest pc start)) (sym he)
        ∙ sym (append_assoc m1 (level_constraint l j end) (N rest pc start))
        ∙ ap (λ z. z ++ N rest pc start) (sym h2)

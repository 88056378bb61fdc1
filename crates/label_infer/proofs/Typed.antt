-- If any labelling of a program has a derivation, the least one has.
use Rattle.std.proofs.Common.{◌≡◌, ℕ, ◌+◌, refl, sym, ◌∙◌, subst, List, ◌∷◌, ◌++◌, ⊎_elim}
use Rattle.std.specs.Prelude.{true, false, Option, None, Some, is_some, not}
use Rattle.std.proofs.lemmas.Bool.{cases_Bool}
use Rattle.label_lattice.specs.declared.label.Label.{Label}
use Rattle.label_lattice.specs.Lattice.{Lattice, Flows, IsLattice}
use Rattle.label_lattice.specs.Order.{lattice_of}
use Rattle.mit_syntax.specs.Expression.{Expression}
use Rattle.mit_syntax.specs.Todo.{Marks, Done, Skip, Assign, Put, Sleep, If, While, Mitigate}
use Rattle.mit_syntax.specs.Plan.{Written, Plan, count}
use Rattle.mit_syntax.specs.Declarations.{Declaration}
use Rattle.mit_syntax.specs.Program.{Syntax, plan_of}
use Rattle.mit_syntax.specs.Valid.{IsValid}
use Rattle.timing_types.specs.declared.rule.Rule.TheVariants.{Mtg as RMtg}
use Rattle.timing_types.specs.Typing.{label_of, index_label}
use Rattle.timing_types.specs.Walk.{OfLevel, Condition, demand, put_index, here, after, loop_start, walk_end, conditions, AllHold, Meets}
use Rattle.timing_types.specs.Labelling.{Labelling, variable_of, marks_of, level_of, tree_of, IsKept, Keeps}
use Rattle.timing_types.proofs.Joins.{join_up}
use Rattle.timing_types.proofs.Walk.{parts_hold, both_hold, typed_from, holds_from}
use Rattle.label_infer.specs.Least.{own, is_free, is_omitted, MeetsOmitted, IsLeast, TypesMost}
use Rattle.label_infer.proofs.Meeting.{parts_meet, holds_meet, label_up, index_up, put_up, here_up, inner_up}
use Rattle.label_infer.proofs.Completed.{lattice_laws, same_written}
use Rattle.label_infer.proofs.Fill.{owned, fill, fills}

module _ (lat : Lattice) (ll : IsLattice lat) (ds : List Declaration) (g h lv lw : ℕ → ℕ) (gh : (x : ℕ)
    → Flows lat (g x) (h x)) (vw : (k : ℕ) → Flows lat (lv k) (lw k))
    (same : (x : ℕ) → is_free ds x ≡ false → g x ≡ h x) (ms ms' : ℕ → Marks) where
  own_up : (o : Option (Label × Label)) (a b : ℕ) → Flows lat a b → Flows lat (own o a).er (own o b).er
  own_up None a b f = f
  own_up (Some p) a b f = ll.same _

  -- a condition on a write label
  own_holds : (o : Option (Label × Label)) (a b : ℕ) → Flows lat a b → Flows lat b (own o b).ew → Flows lat a (own o a).ew
  own_holds None a b f k = ll.same a
  own_holds (Some p) a b f k = ll.chain a b _ f k

  demand_up : (P P' T T' er er' l l' i i' : ℕ) → Flows lat P P' → Flows lat T T' → Flows lat er er' → Flows lat l l' → Flows lat i i' →
      Flows lat (lat.join (lat.join (lat.join (lat.join l i) P) T) er) (lat.join (lat.join (lat.join (lat.join l' i') P') T') er')
  demand_up P P' T T' er er' l l' i i' fp ft fe fl fi =
      join_up lat ll _ er _ er' (join_up lat ll _ T _ T' (join_up lat ll _ P _ P' (join_up lat ll l i l' i' fl fi) fp) ft) fe

  three_up : (a a' b b' c c' : ℕ) → Flows lat a a' → Flows lat b b' → Flows lat c c' → Flows lat (lat.join (lat.join a b) c) (lat.join (lat.join a' b') c')
  three_up a a' b b' c c' f k e = join_up lat ll _ c _ c' (join_up lat ll a b a' b' f k) e

  le : (e : Expression) → Flows lat (label_of lat g e) (label_of lat h e)
  le = label_up lat ll g h gh

  li : (e : Expression) → Flows lat (index_label lat g e) (index_label lat h e)
  li = index_up lat ll g h gh

  module _ (w : Written) (P P' T T' : ℕ) (fp : Flows lat P P') (ft : Flows lat T T') where
    here_is : (e : Expression) → Flows lat (here lat g P e) (here lat h P' e)
    here_is e = here_up lat ll g h gh P P' e fp

    er_is : (e : Expression) → Flows lat (own w.labels (here lat g P e)).er (own w.labels (here lat h P' e)).er
    er_is e = own_up w.labels (here lat g P e) (here lat h P' e) (here_is e)

    after_is : (e : Expression) → Flows lat (after lat g T (owned w (here lat g P e)) e) (after lat h T' (owned w (here lat h P' e)) e)
    after_is e = three_up T T' _ _ _ _ ft (le e) (er_is e)

    loop_is : (e : Expression) → Flows lat (loop_start lat g T (owned w (here lat g P e)) e) (loop_start lat h T' (owned w (here lat h P' e)) e)
    loop_is e = three_up _ _ T T' _ _ (le e) ft (er_is e)

    assign_is : (e : Expression) → Flows lat (demand lat P T (owned w (here lat g P e)) (label_of lat g e) (index_label lat g e))
        (demand lat P' T' (owned w (here lat h P' e)) (label_of lat h e) (index_label lat h e))
    assign_is e = demand_up P P' T T' _ _ _ _ _ _ fp ft (er_is e) (le e) (li e)

    put_here : (i e : Expression) → Flows lat (lat.join P (put_index lat g i e)) (lat.join P' (put_index lat h i e))
    put_here i e = join_up lat ll P (put_index lat g i e) P' (put_index lat h i e) fp (put_up lat ll g h gh i e)

    put_is : (i e : Expression) → Flows lat (demand lat P T (owned w (lat.join P (put_index lat g i e))) (label_of lat g e) (put_index lat g i e))
        (demand lat P' T' (owned w (lat.join P' (put_index lat h i e))) (label_of lat h e) (put_index lat h i e))
    put_is i e = demand_up P P' T T' _ _ _ _ _ _ fp ft (own_up w.labels _ _ (put_here i e)) (le e) (put_up lat ll g h gh i e)

  abbrev ends : Plan → ℕ → ℕ → ℕ
  ends p P T = walk_end lat g (fill lat g lv p P) P T

  abbrev ends' : Plan → ℕ → ℕ → ℕ
  ends' p P T = walk_end lat h (fill lat h lw p P) P T

  -- the end of a walk grows with the labels
  pub end_up : (p : Plan) (P P' T T' : ℕ) → Flows lat P P' → Flows lat T T' → Flows lat (ends p P T) (ends' p P' T')
  end_up Done P P' T T' fp ft = ft
  end_up (Skip w p) P P' T T' fp ft = end_up p P P' _ _ fp (join_up lat ll T (own w.labels P).er T' (own w.labels P').er ft (own_up w.labels P P' fp))
  end_up (Assign w x e p) P P' T T' fp ft = end_up p P P' _ _ fp (join_up lat ll (g x) _ (h x) _ (gh x) (assign_is w P P' T T' fp ft e))
  end_up (Put w f n i e p) P P' T T' fp ft = end_up p P P' _ _ fp (join_up lat ll (g f) _ (h f) _ (gh f) (put_is w P P' T T' fp ft i e))
  end_up (Sleep w e p) P P' T T' fp ft = end_up p P P' _ _ fp (after_is w P P' T T' fp ft e)
  end_up (If w e a b p) P P' T T' fp ft =
      let i = inner_up lat ll g h gh P P' e fp in
      let s = after_is w P P' T T' fp ft e in
      end_up p P P' _ _ fp (join_up lat ll _ _ _ _ (end_up a _ _ _ _ i s) (end_up b _ _ _ _ i s))
  end_up (While w e c p) P P' T T' fp ft = end_up p P P' _ _ fp (end_up c _ _ _ _ (inner_up lat ll g h gh P P' e fp) (loop_is w P P' T T' fp ft e))
  end_up (Mitigate w k l e c p) P P' T T' fp ft = end_up p P P' _ _ fp (after_is w P P' T T' fp ft e)

  abbrev conds : Plan → ℕ → ℕ → List Condition
  conds p P T = conditions lat g (fill lat g lv p P) P T

  abbrev conds' : Plan → ℕ → ℕ → List Condition
  conds' p P T = conditions lat h (fill lat h lw p P) P T

  set_typed : (x low high : ℕ) → Flows lat low high → (is_free ds x ≡ true → Flows lat low (g x)) → Flows lat high (h x) → Flows lat low (g x)
  set_typed x low high u m t = ⊎_elim
      (λ (y : is_free ds x ≡ true). m y)
      (λ (n : is_free ds x ≡ false). subst (λ z. Flows lat low z) (sym (same x n)) (ll.chain low high (h x) u t)) (cases_Bool (is_free ds x))

  level_typed : (l : Option Label) (k low high : ℕ) → Flows lat low high → IsKept l (lv k) → IsKept l (lw k) → (not (is_some l) ≡ true → Flows lat low (lv k))
      → Flows lat high (lw k) → Flows lat low (lv k)
  level_typed None k low high u a b m t = m refl
  level_typed (Some l) k low high u a b m t = subst (λ z. Flows lat low z) (b ∙ sym a) (ll.chain low high (lw k) u t)

  -- where a labelling above meets all conditions, so does one that meets those of omitted labels
  pub typed_low : (p : Plan) (i P P' T T' : ℕ) → Keeps ms lv p i → Keeps ms' lw p i → Flows lat P P' → Flows lat T T' →
      Meets lat (is_omitted ds) (conds p P T) → AllHold lat (conds' p P' T') → AllHold lat (conds p P T)
  typed_low Done i P P' T T' kv kw fp ft m a = tt
  typed_low (Skip w p) i P P' T T' kv kw fp ft m a = (
    own_holds w.labels P P' fp a.0,
    typed_low p (i + 1) P P' _ _ kv.1 kw.1 fp (join_up lat ll T (own w.labels P).er T' (own w.labels P').er ft (own_up w.labels P P' fp)) m.1 a.1,
  )
  typed_low (Assign w x e p) i P P' T T' kv kw fp ft m a =
      let up = assign_is w P P' T T' fp ft e in (
        set_typed x _ _ up m.0 a.0,
        (
          own_holds w.labels _ _ (here_is w P P' T T' fp ft e) a.1.0,
          typed_low p (i + 1) P P' _ _ kv.1 kw.1 fp (join_up lat ll (g x) _ (h x) _ (gh x) up) m.1.1 a.1.1,
        ),
      )
  typed_low (Put w f n j e p) i P P' T T' kv kw fp ft m a =
      let up = put_is w P P' T T' fp ft j e in (
        set_typed f _ _ up m.0 a.0,
        (
          own_holds w.labels _ _ (put_here w P P' T T' fp ft j e) a.1.0,
          typed_low p (i + 1) P P' _ _ kv.1 kw.1 fp (join_up lat ll (g f) _ (h f) _ (gh f) up) m.1.1 a.1.1,
        ),
      )
  typed_low (Sleep w e p) i P P' T T' kv kw fp ft m a =
      (own_holds w.labels _ _ (here_is w P P' T T' fp ft e) a.0, typed_low p (i + 1) P P' _ _ kv.1 kw.1 fp (after_is w P P' T T' fp ft e) m.1 a.1)
  typed_low (If w e x c p) i P P' T T' kv kw fp ft m a =
      let inner = lat.join P (label_of lat g e) in
      let inner' = lat.join P' (label_of lat h e) in
      let start = after lat g T (owned w (here lat g P e)) e in
      let start' = after lat h T' (owned w (here lat h P' e)) e in
      let fi = inner_up lat ll g h gh P P' e fp in
      let fs = after_is w P P' T T' fp ft e in
      let end = lat.join (ends x inner start) (ends c inner start) in
      let end' = lat.join (ends' x inner' start') (ends' c inner' start') in
      let fe = join_up lat ll _ _ _ _ (end_up x inner inner' start start' fi fs) (end_up c inner inner' start start' fi fs) in
      let m1 = parts_meet lat (is_omitted ds) (conds x inner start) (conds c inner start ++ conds p P end) m.1 in
      let m2 = parts_meet lat (is_omitted ds) (conds c inner start) (conds p P end) m1.1 in
      let a1 = parts_hold lat (conds' x inner' start') (conds' c inner' start' ++ conds' p P' end') a.1 in
      let a2 = parts_hold lat (conds' c inner' start') (conds' p P' end') a1.1 in (
        own_holds w.labels _ _ (here_is w P P' T T' fp ft e) a.0,
        both_hold lat (conds x inner start) (conds c inner start ++ conds p P end) (typed_low x (i + 1) inner inner' start start' kv.1 kw.1 fi fs m1.0 a1.0)
            (both_hold lat (conds c inner start) (conds p P end) (typed_low c (i + 1 + count x) inner inner' start start' kv.2 kw.2 fi fs m2.0 a2.0)
            (typed_low p (i + 1 + count x + count c) P P' end end' kv.3 kw.3 fp fe m2.1 a2.1)),
      )
  typed_low (While w e c p) i P P' T T' kv kw fp ft m a =
      let inner = lat.join P (label_of lat g e) in
      let inner' = lat.join P' (label_of lat h e) in
      let start = loop_start lat g T (owned w (here lat g P e)) e in
      let start' = loop_start lat h T' (owned w (here lat h P' e)) e in
      let fi = inner_up lat ll g h gh P P' e fp in
      let stay = ends c inner start in
      let stay' = ends' c inner' start' in
      let fs = end_up c inner inner' start start' fi (loop_is w P P' T T' fp ft e) in
      let m1 = parts_meet lat (is_omitted ds) (conds c inner stay) (conds p P stay) m.1 in
      let a1 = parts_hold lat (conds' c inner' stay') (conds' p P' stay') a.1 in (
        own_holds w.labels _ _ (here_is w P P' T T' fp ft e) a.0,
        both_hold lat (conds c inner stay) (conds p P stay) (typed_low c (i + 1) inner inner' stay stay' kv.1 kw.1 fi fs m1.0 a1.0)
            (typed_low p (i + 1 + count c) P P' stay stay' kv.2 kw.2 fp fs m1.1 a1.1),
      )
  typed_low (Mitigate w k l e c p) i P P' T T' kv kw fp ft m a =
      let start = after lat g T (owned w (here lat g P e)) e in
      let start' = after lat h T' (owned w (here lat h P' e)) e in
      let fs = after_is w P P' T T' fp ft e in
      let last : Condition = record { rule = RMtg; pos = w.pos; have = ends c P start; allowed = lv k; side = OfLevel k (is_some l) } in
      let last' : Condition = record { rule = RMtg; pos = w.pos; have = ends' c P' start'; allowed = lw k; side = OfLevel k (is_some l) } in
      let m1 = parts_meet lat (is_omitted ds) (conds c P start) (last ∷ conds p P start) m.1 in
      let a1 = parts_hold lat (conds' c P' start') (last' ∷ conds' p P' start') a.1 in (
        own_holds w.labels _ _ (here_is w P P' T T' fp ft e) a.0,
        both_hold lat (conds c P start) (last ∷ conds p P start) (typed_low c (i + 1) P P' start start' kv.2 kw.2 fp fs m1.0 a1.0) (
          level_typed l k (ends c P start) (ends' c P' start') (end_up c P P' start start' fp fs) kv.1 kw.1 m1.1.0 a1.1.0,
          typed_low p (i + 1 + count c) P P' start start' kv.3 kw.3 fp fs m1.1.1 a1.1.1,
        ),
      )

pub types_most : (s : Syntax) → IsValid s → (l : Labelling) → IsLeast s l → TypesMost s l
types_most s valid l best l' h' ty =
    let o = s.order in
    let b = o.bottom in
    let lat = lattice_of o in
    let ll = lattice_laws o valid.order in
    let p = plan_of s in
    let ds = s.declarations in
    let g = variable_of o l in
    let h = variable_of o l' in
    let lv = level_of o l in
    let lw = level_of o l' in
    let tree = fills lat g lv (marks_of o l) p 0 b best.labels.own in
    let tree' = fills lat h lw (marks_of o l') p 0 b h'.own in
    let sb = ll.same b in
    let all' = (holds_from lat ll h (tree_of o l' p 0) b b b ty.0 sb ty.1).0 in
    let met' : MeetsOmitted s l' = holds_meet lat (is_omitted ds) (conditions lat h (tree_of o l' p 0) b b) all' in
    let low = best.least l' h' met' in
    let all = typed_low lat ll ds g h lv lw low.variables low.levels (λ x f. same_written s l l' best.labels.keeps h'.keeps x f)
    (marks_of o l) (marks_of o l') p 0 b b b b
    best.labels.keeps.written h'.keeps.written sb sb
    (subst (λ z. Meets lat (is_omitted ds) (conditions lat g z b b)) tree best.meets)
    (subst (λ z. AllHold lat (conditions lat h z b b)) tree' all') in
    let mine : AllHold lat (conditions lat g (tree_of o l p 0) b b) = subst (λ z. AllHold lat (conditions lat g z b b)) (sym tree) all in (
      walk_end lat g (tree_of o l p 0) b b,
      typed_from lat ll g (tree_of o l p 0) b b mine,
    )

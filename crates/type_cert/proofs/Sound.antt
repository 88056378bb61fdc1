-- Lines that meet the demands of a program's places are a derivation of it.
use Rattle.std.proofs.Common.{◌≡◌, ℕ, ◌+◌, refl, sym, ap, ◌∙◌, subst, List, ◌++◌, arith, ◌⊎◌, inl, inr, ⊎_elim}
use Rattle.std.specs.Prelude.{Option, None, Some}
use Rattle.label_lattice.specs.declared.label.Label.{Label}
use Rattle.label_lattice.specs.Lattice.{Lattice, Flows}
use Rattle.mit_syntax.specs.Expression.{Expression}
use Rattle.mit_syntax.specs.Todo.{Marks, Done, Skip, Assign, Put, Sleep, If, While, Mitigate}
use Rattle.mit_syntax.specs.Plan.{Plan, count}
use Rattle.mit_syntax.specs.Declarations.{Declaration}
use Rattle.mit_syntax.specs.Valid.{AreSome, AreKnown}
use Rattle.timing_types.specs.Typing.{label_of, index_label, Types}
use Rattle.timing_types.specs.Walk.{put_index, here}
use Rattle.timing_types.specs.Placed.{labelled, bare}
use Rattle.timing_types.specs.Contexts.{HasContexts}
use Rattle.timing_types.specs.Labelling.{IsKept, AreKept, Keeps}
use Rattle.label_infer.specs.Least.{own, HasOwn}
use Rattle.label_infer.specs.Given.{AllFrom}
use Rattle.label_infer.proofs.Placed.{from_parts}
use Rattle.type_cert.specs.declared.line.Line.{Line}
use Rattle.type_cert.specs.declared.place.Start.{Start}
use Rattle.type_cert.specs.declared.place.Start.TheVariants.{After, Within, Around}
use Rattle.type_cert.specs.declared.place.Close.{Close}
use Rattle.type_cert.specs.declared.place.Close.TheVariants.{Open, If as ClosesIf, While as ClosesWhile, Mitigate as ClosesMitigate}
use Rattle.type_cert.specs.declared.place.Place.{Place}
use Rattle.type_cert.specs.Places.{label, reads, closing, last_of, places}
use Rattle.type_cert.specs.Demands.{marks_in, level_in, start_of, Closes, Meets}
use Rattle.type_cert.proofs.Placing.{length_places}

own_kept : (o : Option (Label × Label)) (h : ℕ) (m : Marks) → m ≡ own o h → AreKept o m
own_kept None h m e = tt
own_kept (Some p) h m e = (ap (λ (z : Marks). z.er) e, ap (λ (z : Marks). z.ew) e)

module _ (lat : Lattice) (g : ℕ → ℕ) (lines : ℕ → Line) (ls : ℕ → ℕ) where
  abbrev ms : ℕ → Marks
  ms i = marks_in (lines i)

  abbrev pub MeetsAt : ℕ → Place → Type 0
  MeetsAt i p = Meets lat lines p (lines i)

  abbrev P : Plan → ℕ → ℕ → Start → Close → List Place
  P = places lat g

  -- where the lines of a list that is numbered from i end, from t on
  abbrev list_end : Plan → ℕ → ℕ → ℕ
  list_end Done i t = t
  list_end (Skip w p) i t = list_end p (i + 1) (lines i).end.number
  list_end (Assign w x e p) i t = list_end p (i + 1) (lines i).end.number
  list_end (Put w f n j e p) i t = list_end p (i + 1) (lines i).end.number
  list_end (Sleep w e p) i t = list_end p (i + 1) (lines i).end.number
  list_end (If w e a b p) i t = list_end p (i + 1 + count a + count b) (lines i).end.number
  list_end (While w e d p) i t = list_end p (i + 1 + count d) (lines i).end.number
  list_end (Mitigate w k l e d p) i t = list_end p (i + 1 + count d) (lines i).end.number

  last_end : (p : Plan) (i last t : ℕ) → AreSome p ⊎ (t ≡ (lines last).end.number) → list_end p i t ≡ (lines (last_of p i last)).end.number
  last_end Done i last t h = ⊎_elim (λ x. absurd x) (λ x. x) h
  last_end (Skip w p) i last t h = last_end p (i + 1) i (lines i).end.number (inr refl)
  last_end (Assign w x e p) i last t h = last_end p (i + 1) i (lines i).end.number (inr refl)
  last_end (Put w f n j e p) i last t h = last_end p (i + 1) i (lines i).end.number (inr refl)
  last_end (Sleep w e p) i last t h = last_end p (i + 1) i (lines i).end.number (inr refl)
  last_end (If w e a b p) i last t h = last_end p (i + 1 + count a + count b) i (lines i).end.number (inr refl)
  last_end (While w e d p) i last t h = last_end p (i + 1 + count d) i (lines i).end.number (inr refl)
  last_end (Mitigate w k l e d p) i last t h = last_end p (i + 1 + count d) i (lines i).end.number (inr refl)

  -- a list closes what its last command does
  list_closes : (p : Plan) (c : Close) (j e : ℕ) → Closes lat lines (closing p c) e → (AreSome p → Closes lat lines c (list_end p j e))
      → Closes lat lines c (list_end p j e)
  list_closes Done c j e h k = h
  list_closes (Skip w p) c j e h k = k tt
  list_closes (Assign w x f p) c j e h k = k tt
  list_closes (Put w x n i f p) c j e h k = k tt
  list_closes (Sleep w f p) c j e h k = k tt
  list_closes (If w f a b p) c j e h k = k tt
  list_closes (While w f d p) c j e h k = k tt
  list_closes (Mitigate w n l f d p) c j e h k = k tt

  -- each mitigate's level is that in its line
  abbrev pub HasLevels : Plan → ℕ → Type 0
  HasLevels Done i = Unit {0}
  HasLevels (Skip w p) i = HasLevels p (i + 1)
  HasLevels (Assign w x e p) i = HasLevels p (i + 1)
  HasLevels (Put w f n j e p) i = HasLevels p (i + 1)
  HasLevels (Sleep w e p) i = HasLevels p (i + 1)
  HasLevels (If w e a b p) i = HasLevels a (i + 1) × HasLevels b (i + 1 + count a) × HasLevels p (i + 1 + count a + count b)
  HasLevels (While w e d p) i = HasLevels d (i + 1) × HasLevels p (i + 1 + count d)
  HasLevels (Mitigate w k l e d p) i = (ls k ≡ level_in lat.bottom (lines i).level) × HasLevels d (i + 1) × HasLevels p (i + 1 + count d)

  -- the parts of a command's places
  pub if_parts_at : (Q : ℕ → Place → Type 0) (e : Expression) (a b p : Plan) (i pc : ℕ) (c : Close) →
      AllFrom Q (i + 1) (P a (i + 1) (lat.join pc (label_of lat g e)) (Within i (label (label_of lat g e))) Open
      ++ (P b (i + 1 + count a) (lat.join pc (label_of lat g e)) (Within i (label (label_of lat g e))) (ClosesIf i (last_of a (i + 1) (i + 1)))
      ++ P p (i + 1 + count a + count b) pc (After i) c)) →
      AllFrom Q (i + 1) (P a (i + 1) (lat.join pc (label_of lat g e)) (Within i (label (label_of lat g e))) Open)
      × AllFrom Q (i + 1 + count a) (P b (i + 1 + count a) (lat.join pc (label_of lat g e)) (Within i (label (label_of lat g e)))
      (ClosesIf i (last_of a (i + 1) (i + 1))))
      × AllFrom Q (i + 1 + count a + count b) (P p (i + 1 + count a + count b) pc (After i) c)
  if_parts_at Q e a b p i pc c h =
      let inner = lat.join pc (label_of lat g e) in
      let start = Within i (label (label_of lat g e)) in
      let joins = ClosesIf i (last_of a (i + 1) (i + 1)) in
      let na = length_places lat g a (i + 1) inner start Open in
      let nb = length_places lat g b (i + 1 + count a) inner start joins in
      let x = from_parts Q (P a (i + 1) inner start Open) (P b (i + 1 + count a) inner start joins ++ P p (i + 1 + count a + count b) pc (After i) c) (i + 1)
      (i + 1 + count a) (omega (arith, na)) h in
      let y = from_parts Q (P b (i + 1 + count a) inner start joins) (P p (i + 1 + count a + count b) pc (After i) c) (i + 1 + count a)
      (i + 1 + count a + count b) (omega (arith, nb)) x.1 in
      (x.0, y.0, y.1)

  pub one_part_at : (Q : ℕ → Place → Type 0) (d p : Plan) (i inner pc : ℕ) (s : Start) (k c : Close)
      → AllFrom Q (i + 1) (P d (i + 1) inner s k ++ P p (i + 1 + count d) pc (After i) c) →
      AllFrom Q (i + 1) (P d (i + 1) inner s k) × AllFrom Q (i + 1 + count d) (P p (i + 1 + count d) pc (After i) c)
  one_part_at Q d p i inner pc s k c h =
      let nd = length_places lat g d (i + 1) inner s k in
      from_parts Q (P d (i + 1) inner s k) (P p (i + 1 + count d) pc (After i) c) (i + 1) (i + 1 + count d) (omega (arith, nd)) h

  module _ (size : ℕ) (ds : List Declaration) where
    pub sound : (p : Plan) (i pc : ℕ) (s : Start) (c : Close) (t : ℕ) → AllFrom MeetsAt i (P p i pc s c) → HasLevels p i
        → AreKnown size ds p → t ≡ start_of lat lines s →
        Types lat g pc t (bare (labelled ms ls p i)) (list_end p i t) × (AreSome p → Closes lat lines c (list_end p i t))
    sound Done i pc s c t h v kn e = (refl, λ x. absurd x)
    sound (Skip w p) i pc s c t h v kn e =
        let m = h.0 in
        let from : (lines i).start.number ≡ t = m.start ∙ sym e in
        let end : (lines i).end.number ≡ lat.join t (lines i).read.number = m.rule ∙ ap (λ z. lat.join z (lines i).read.number) from in
        let q = sound p (i + 1) pc (After i) c (lines i).end.number h.1 v kn.1 refl in (
          (m.writes, subst (λ z. Types lat g pc z (bare (labelled ms ls p (i + 1))) (list_end p (i + 1) (lines i).end.number)) end q.0),
          λ _. list_closes p c (i + 1) (lines i).end.number m.close q.1,
        )
    sound (Assign w x f p) i pc s c t h v kn e =
        let m = h.0 in
        let r = reads lat pc (label_of lat g f) (index_label lat g f) in
        let from : (lines i).start.number ≡ t = m.start ∙ sym e in
        let q = sound p (i + 1) pc (After i) c (lines i).end.number h.1 v kn.3 refl in (
          (
            subst (λ z. Flows lat (lat.join (lat.join r z) (lines i).read.number) (g x)) from m.rule.0,
            m.writes,
            subst (λ z. Types lat g pc z (bare (labelled ms ls p (i + 1))) (list_end p (i + 1) (lines i).end.number)) m.rule.1 q.0,
          ),
          λ _. list_closes p c (i + 1) (lines i).end.number m.close q.1,
        )
    sound (Put w x n j f p) i pc s c t h v kn e =
        let m = h.0 in
        let r = reads lat pc (label_of lat g f) (put_index lat g j f) in
        let from : (lines i).start.number ≡ t = m.start ∙ sym e in
        let q = sound p (i + 1) pc (After i) c (lines i).end.number h.1 v kn.4 refl in (
          (
            subst (λ z. Flows lat (lat.join (lat.join r z) (lines i).read.number) (g x)) from m.rule.0,
            m.writes,
            subst (λ z. Types lat g pc z (bare (labelled ms ls p (i + 1))) (list_end p (i + 1) (lines i).end.number)) m.rule.1 q.0,
          ),
          λ _. list_closes p c (i + 1) (lines i).end.number m.close q.1,
        )
    sound (Sleep w f p) i pc s c t h v kn e =
        let m = h.0 in
        let l = label_of lat g f in
        let from : (lines i).start.number ≡ t = m.start ∙ sym e in
        let end : (lines i).end.number ≡ lat.join (lat.join t l) (lines i).read.number =
        m.rule ∙ ap (λ z. lat.join (lat.join z l) (lines i).read.number) from in
        let q = sound p (i + 1) pc (After i) c (lines i).end.number h.1 v kn.2 refl in (
          (m.writes, subst (λ z. Types lat g pc z (bare (labelled ms ls p (i + 1))) (list_end p (i + 1) (lines i).end.number)) end q.0),
          λ _. list_closes p c (i + 1) (lines i).end.number m.close q.1,
        )
    sound (If w f a b p) i pc s c t h v kn e =
        let m = h.0 in
        let l = label_of lat g f in
        let inner = lat.join pc l in
        let from : (lines i).start.number ≡ t = m.start ∙ sym e in
        let start = lat.join (lat.join t l) (lines i).read.number in
        let starts : start ≡ start_of lat lines (Within i (label l)) = ap (λ z. lat.join (lat.join z l) (lines i).read.number) (sym from) in
        let joins = ClosesIf i (last_of a (i + 1) (i + 1)) in
        let parts = if_parts_at MeetsAt f a b p i pc c h.1 in
        let qa = sound a (i + 1) inner (Within i (label l)) Open start parts.0 v.0 kn.4 starts in
        let qb = sound b (i + 1 + count a) inner (Within i (label l)) joins start parts.1 v.1 kn.5 starts in
        let ip = i + 1 + count a + count b in
        let q = sound p ip pc (After i) c (lines i).end.number parts.2 v.2 kn.6 refl in
        let ta = list_end a (i + 1) start in
        let tb = list_end b (i + 1 + count a) start in
        let end : (lines i).end.number ≡ lat.join ta tb = qb.1 kn.3 ∙ ap (λ z. lat.join z tb) (sym (last_end a (i + 1) (i + 1) start (inl kn.2))) in (
          (ta, tb, m.writes, qa.0, qb.0, subst (λ z. Types lat g pc z (bare (labelled ms ls p ip)) (list_end p ip (lines i).end.number)) end q.0),
          λ _. list_closes p c ip (lines i).end.number m.close q.1,
        )
    sound (While w f d p) i pc s c t h v kn e =
        let m = h.0 in
        let l = label_of lat g f in
        let inner = lat.join pc l in
        let from : (lines i).start.number ≡ t = m.start ∙ sym e in
        let end = (lines i).end.number in
        let parts = one_part_at MeetsAt d p i inner pc (Around i) (ClosesWhile i) c h.1 in
        let qd = sound d (i + 1) inner (Around i) (ClosesWhile i) end parts.0 v.0 kn.3 refl in
        let ip = i + 1 + count d in
        let q = sound p ip pc (After i) c end parts.1 v.1 kn.4 refl in (
          (
            end,
            m.writes,
            subst (λ z. Flows lat (lat.join (lat.join l z) (lines i).read.number) end) from m.rule,
            subst (λ z. Types lat g inner end (bare (labelled ms ls d (i + 1))) z) (qd.1 kn.2) qd.0,
            q.0,
          ),
          λ _. list_closes p c ip end m.close q.1,
        )
    sound (Mitigate w k lv f d p) i pc s c t h v kn e =
        let m = h.0 in
        let l = label_of lat g f in
        let from : (lines i).start.number ≡ t = m.start ∙ sym e in
        let start = lat.join (lat.join t l) (lines i).read.number in
        let starts : start ≡ start_of lat lines (Within i (label l)) = ap (λ z. lat.join (lat.join z l) (lines i).read.number) (sym from) in
        let parts = one_part_at MeetsAt d p i pc pc (Within i (label l)) (ClosesMitigate i) c h.1 in
        let qd = sound d (i + 1) pc (Within i (label l)) (ClosesMitigate i) start parts.0 v.1 kn.4 starts in
        let ip = i + 1 + count d in
        let end : (lines i).end.number ≡ start = m.rule ∙ ap (λ z. lat.join (lat.join z l) (lines i).read.number) from in
        let q = sound p ip pc (After i) c (lines i).end.number parts.1 v.2 kn.5 refl in (
          (
            list_end d (i + 1) start,
            m.writes,
            qd.0,
            subst (λ z. Flows lat (list_end d (i + 1) start) z) (sym v.0) (qd.1 kn.3),
            subst (λ z. Types lat g pc z (bare (labelled ms ls p ip)) (list_end p ip (lines i).end.number)) end q.0,
          ),
          λ _. list_closes p c ip (lines i).end.number m.close q.1,
        )

  -- the two labels of each command are its own
  pub owns : (p : Plan) (i pc : ℕ) (s : Start) (c : Close) → AllFrom MeetsAt i (P p i pc s c) → HasOwn lat g ms p i pc
  owns Done i pc s c h = tt
  owns (Skip w p) i pc s c h = (h.0.marks, owns p (i + 1) pc (After i) c h.1)
  owns (Assign w x e p) i pc s c h = (h.0.marks, owns p (i + 1) pc (After i) c h.1)
  owns (Put w f n j e p) i pc s c h = (h.0.marks, owns p (i + 1) pc (After i) c h.1)
  owns (Sleep w e p) i pc s c h = (h.0.marks, owns p (i + 1) pc (After i) c h.1)
  owns (If w e a b p) i pc s c h =
      let inner = lat.join pc (label_of lat g e) in
      let start = Within i (label (label_of lat g e)) in
      let parts = if_parts_at MeetsAt e a b p i pc c h.1 in (
        h.0.marks,
        owns a (i + 1) inner start Open parts.0,
        owns b (i + 1 + count a) inner start (ClosesIf i (last_of a (i + 1) (i + 1))) parts.1,
        owns p (i + 1 + count a + count b) pc (After i) c parts.2,
      )
  owns (While w e d p) i pc s c h =
      let inner = lat.join pc (label_of lat g e) in
      let parts = one_part_at MeetsAt d p i inner pc (Around i) (ClosesWhile i) c h.1 in
      (h.0.marks, owns d (i + 1) inner (Around i) (ClosesWhile i) parts.0, owns p (i + 1 + count d) pc (After i) c parts.1)
  owns (Mitigate w k l e d p) i pc s c h =
      let start = Within i (label (label_of lat g e)) in
      let parts = one_part_at MeetsAt d p i pc pc start (ClosesMitigate i) c h.1 in
      (h.0.marks, owns d (i + 1) pc start (ClosesMitigate i) parts.0, owns p (i + 1 + count d) pc (After i) c parts.1)

  -- all that is written is kept
  pub kept : (p : Plan) (i pc : ℕ) (s : Start) (c : Close) → AllFrom MeetsAt i (P p i pc s c) → HasLevels p i → Keeps ms ls p i
  kept Done i pc s c h v = tt
  kept (Skip w p) i pc s c h v = (own_kept w.labels pc (ms i) h.0.marks, kept p (i + 1) pc (After i) c h.1 v)
  kept (Assign w x e p) i pc s c h v = (own_kept w.labels (here lat g pc e) (ms i) h.0.marks, kept p (i + 1) pc (After i) c h.1 v)
  kept (Put w f n j e p) i pc s c h v = (own_kept w.labels (lat.join pc (put_index lat g j e)) (ms i) h.0.marks, kept p (i + 1) pc (After i) c h.1 v)
  kept (Sleep w e p) i pc s c h v = (own_kept w.labels (here lat g pc e) (ms i) h.0.marks, kept p (i + 1) pc (After i) c h.1 v)
  kept (If w e a b p) i pc s c h v =
      let inner = lat.join pc (label_of lat g e) in
      let start = Within i (label (label_of lat g e)) in
      let parts = if_parts_at MeetsAt e a b p i pc c h.1 in (
        own_kept w.labels (here lat g pc e) (ms i) h.0.marks,
        kept a (i + 1) inner start Open parts.0 v.0,
        kept b (i + 1 + count a) inner start (ClosesIf i (last_of a (i + 1) (i + 1))) parts.1 v.1,
        kept p (i + 1 + count a + count b) pc (After i) c parts.2 v.2,
      )
  kept (While w e d p) i pc s c h v =
      let inner = lat.join pc (label_of lat g e) in
      let parts = one_part_at MeetsAt d p i inner pc (Around i) (ClosesWhile i) c h.1 in (
        own_kept w.labels (here lat g pc e) (ms i) h.0.marks,
        kept d (i + 1) inner (Around i) (ClosesWhile i) parts.0 v.0,
        kept p (i + 1 + count d) pc (After i) c parts.1 v.1,
      )
  kept (Mitigate w k l e d p) i pc s c h v =
      let start = Within i (label (label_of lat g e)) in
      let parts = one_part_at MeetsAt d p i pc pc start (ClosesMitigate i) c h.1 in (
        own_kept w.labels (here lat g pc e) (ms i) h.0.marks,
        subst (λ z. IsKept l z) (sym v.0) h.0.level,
        kept d (i + 1) pc start (ClosesMitigate i) parts.0 v.1,
        kept p (i + 1 + count d) pc (After i) c parts.1 v.2,
      )

  -- the program-counter label of each mitigate, where a table has that of its line
  module _ (at : ℕ → ℕ) where
    abbrev pub HasPcs : Plan → ℕ → Type 0
    HasPcs Done i = Unit {0}
    HasPcs (Skip w p) i = HasPcs p (i + 1)
    HasPcs (Assign w x e p) i = HasPcs p (i + 1)
    HasPcs (Put w f n j e p) i = HasPcs p (i + 1)
    HasPcs (Sleep w e p) i = HasPcs p (i + 1)
    HasPcs (If w e a b p) i = HasPcs a (i + 1) × HasPcs b (i + 1 + count a) × HasPcs p (i + 1 + count a + count b)
    HasPcs (While w e d p) i = HasPcs d (i + 1) × HasPcs p (i + 1 + count d)
    HasPcs (Mitigate w k l e d p) i = (at k ≡ (lines i).pc.number) × HasPcs d (i + 1) × HasPcs p (i + 1 + count d)

    pub in_contexts : (p : Plan) (i pc : ℕ) (s : Start) (c : Close) → AllFrom MeetsAt i (P p i pc s c) → HasPcs p i
        → HasContexts lat g at pc (bare (labelled ms ls p i))
    in_contexts Done i pc s c h v = tt
    in_contexts (Skip w p) i pc s c h v = in_contexts p (i + 1) pc (After i) c h.1 v
    in_contexts (Assign w x e p) i pc s c h v = in_contexts p (i + 1) pc (After i) c h.1 v
    in_contexts (Put w f n j e p) i pc s c h v = in_contexts p (i + 1) pc (After i) c h.1 v
    in_contexts (Sleep w e p) i pc s c h v = in_contexts p (i + 1) pc (After i) c h.1 v
    in_contexts (If w e a b p) i pc s c h v =
        let inner = lat.join pc (label_of lat g e) in
        let start = Within i (label (label_of lat g e)) in
        let parts = if_parts_at MeetsAt e a b p i pc c h.1 in (
          in_contexts a (i + 1) inner start Open parts.0 v.0,
          in_contexts b (i + 1 + count a) inner start (ClosesIf i (last_of a (i + 1) (i + 1))) parts.1 v.1,
          in_contexts p (i + 1 + count a + count b) pc (After i) c parts.2 v.2,
        )
    in_contexts (While w e d p) i pc s c h v =
        let inner = lat.join pc (label_of lat g e) in
        let parts = one_part_at MeetsAt d p i inner pc (Around i) (ClosesWhile i) c h.1 in
        (in_contexts d (i + 1) inner (Around i) (ClosesWhile i) parts.0 v.0, in_contexts p (i + 1 + count d) pc (After i) c parts.1 v.1)
    in_contexts (Mitigate w k l e d p) i pc s c h v =
        let start = Within i (label (label_of lat g e)) in
        let parts = one_part_at MeetsAt d p i pc pc start (ClosesMitigate i) c h.1 in
        (v.0 ∙ h.0.pc, in_contexts d (i + 1) pc start (ClosesMitigate i) parts.0 v.1, in_contexts p (i + 1 + count d) pc (After i) c parts.1 v.2)

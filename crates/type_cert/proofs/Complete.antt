-- The lines of a walk meet the demands of the places.
use Rattle.std.proofs.Common.{◌≡◌, ℕ, ◌+◌, ◌<◌, refl, sym, ap, ◌∙◌, subst, List, ◌∷◌, ◌++◌, length, length-append, arith, ◌⊎◌, inl, inr, ⊎_elim}
use Rattle.std.specs.Prelude.{Option, None, Some, is_some}
use Rattle.label_lattice.specs.declared.label.Label.{Label}
use Rattle.label_lattice.specs.Lattice.{Lattice, Flows, IsLattice}
use Rattle.mit_syntax.specs.Expression.{Expression}
use Rattle.mit_syntax.specs.Todo.{Marks, Done, Skip, Assign, Put, Sleep, If, While, Mitigate}
use Rattle.mit_syntax.specs.Plan.{Written, Plan, count}
use Rattle.mit_syntax.specs.Declarations.{Declaration}
use Rattle.mit_syntax.specs.Valid.{AreSome, AreKnown}
use Rattle.timing_types.specs.declared.rule.Rule.{Rule}
use Rattle.timing_types.specs.declared.rule.Rule.TheVariants.{Skip as RSkip, Asgn as RAsgn, If as RIf, While as RWhile, Mtg as RMtg, Sleep as RSleep}
use Rattle.timing_types.specs.Typing.{label_of, index_label}
use Rattle.timing_types.specs.Walk.{Condition, demand, put_index, here, after, loop_start, walk_end, conditions, AllHold, OfLevel}
use Rattle.timing_types.specs.Placed.{Tree, placed, labelled}
use Rattle.timing_types.specs.Labelling.{Keeps}
use Rattle.timing_types.proofs.Joins.{absorbs}
use Rattle.timing_types.proofs.Walk.{parts_hold, walk_grows, walk_stays}
use Rattle.label_infer.specs.Least.{own, HasOwn}
use Rattle.label_infer.specs.Given.{AllFrom}
use Rattle.label_infer.proofs.Placed.{from_parts, from_both}
use Rattle.label_infer.proofs.Ranges.{label_below, index_below}
use Rattle.type_cert.specs.declared.line.Line.{Line}
use Rattle.type_cert.specs.declared.place.Act.{Act}
use Rattle.type_cert.specs.declared.place.Start.{Start}
use Rattle.type_cert.specs.declared.place.Start.TheVariants.{After, Within, Around}
use Rattle.type_cert.specs.declared.place.Close.{Close}
use Rattle.type_cert.specs.declared.place.Close.TheVariants.{Open, If as ClosesIf, While as ClosesWhile, Mitigate as ClosesMitigate}
use Rattle.type_cert.specs.declared.place.Place.{Place}
use Rattle.type_cert.specs.Places.{label, closing, last_of, places}
use Rattle.type_cert.specs.Demands.{rule_of, level_in, HasLevel, KeepsLevel, KeepsRule, start_of, Closes, HasLabels, IsFormed, Meets}
use Rattle.type_cert.specs.Derived.{line_of, derived}
use Rattle.type_cert.proofs.Placing.{length_places}

module _ (lat : Lattice) (g : ℕ → ℕ) (ms : ℕ → Marks) (ls : ℕ → ℕ) where
  abbrev pub T : Plan → ℕ → Tree
  T = labelled ms ls

  abbrev W : Plan → ℕ → ℕ → ℕ → ℕ
  W p i pc t = walk_end lat g (labelled ms ls p i) pc t

  abbrev pub D : Plan → ℕ → ℕ → ℕ → List Line
  D p i pc t = derived lat g (labelled ms ls p i) pc t

  pub length_derived : (p : Plan) (i pc t : ℕ) → length (D p i pc t) ≡ count p
  length_derived Done i pc t = refl
  length_derived (Skip w p) i pc t = let h = length_derived p (i + 1) pc (lat.join t (ms i).er) in omega (arith, h)
  length_derived (Assign w x e p) i pc t =
      let h = length_derived p (i + 1) pc (lat.join (g x) (demand lat pc t (placed ms w i) (label_of lat g e) (index_label lat g e))) in omega (arith, h)
  length_derived (Put w f n j e p) i pc t =
      let h = length_derived p (i + 1) pc (lat.join (g f) (demand lat pc t (placed ms w i) (label_of lat g e) (put_index lat g j e))) in omega (arith, h)
  length_derived (Sleep w e p) i pc t = let h = length_derived p (i + 1) pc (after lat g t (placed ms w i) e) in omega (arith, h)
  length_derived (If w e a b p) i pc t =
      let inner = lat.join pc (label_of lat g e) in
      let start = after lat g t (placed ms w i) e in
      let ib = i + 1 + count a in
      let ip = i + 1 + count a + count b in
      let end = lat.join (W a (i + 1) inner start) (W b ib inner start) in
      let x = length_derived a (i + 1) inner start in
      let y = length_derived b ib inner start in
      let z = length_derived p ip pc end in
      let u = length-append (D a (i + 1) inner start) (D b ib inner start ++ D p ip pc end) in
      let v = length-append (D b ib inner start) (D p ip pc end) in
      omega (arith, x, y, z, u, v)
  length_derived (While w e d p) i pc t =
      let inner = lat.join pc (label_of lat g e) in
      let end = W d (i + 1) inner (loop_start lat g t (placed ms w i) e) in
      let ip = i + 1 + count d in
      let x = length_derived d (i + 1) inner end in
      let z = length_derived p ip pc end in
      let u = length-append (D d (i + 1) inner end) (D p ip pc end) in
      omega (arith, x, z, u)
  length_derived (Mitigate w k l e d p) i pc t =
      let start = after lat g t (placed ms w i) e in
      let ip = i + 1 + count d in
      let x = length_derived d (i + 1) pc start in
      let z = length_derived p ip pc start in
      let u = length-append (D d (i + 1) pc start) (D p ip pc start) in
      omega (arith, x, z, u)

  -- the parts of a command's lines
  if_lines : (Q : ℕ → Line → Type 0) (a b p : Plan) (i inner start pc end : ℕ)
      → AllFrom Q (i + 1) (D a (i + 1) inner start ++ (D b (i + 1 + count a) inner start ++ D p (i + 1 + count a + count b) pc end)) →
      AllFrom Q (i + 1) (D a (i + 1) inner start) × AllFrom Q (i + 1 + count a) (D b (i + 1 + count a) inner start)
      × AllFrom Q (i + 1 + count a + count b) (D p (i + 1 + count a + count b) pc end)
  if_lines Q a b p i inner start pc end h =
      let na = length_derived a (i + 1) inner start in
      let nb = length_derived b (i + 1 + count a) inner start in
      let x = from_parts Q (D a (i + 1) inner start) (D b (i + 1 + count a) inner start ++ D p (i + 1 + count a + count b) pc end) (i + 1)
      (i + 1 + count a) (omega (arith, na)) h in
      let y = from_parts Q (D b (i + 1 + count a) inner start) (D p (i + 1 + count a + count b) pc end) (i + 1 + count a)
      (i + 1 + count a + count b) (omega (arith, nb)) x.1 in
      (x.0, y.0, y.1)

  one_lines : (Q : ℕ → Line → Type 0) (d p : Plan) (i inner start pc end : ℕ) → AllFrom Q (i + 1) (D d (i + 1) inner start ++ D p (i + 1 + count d) pc end) →
      AllFrom Q (i + 1) (D d (i + 1) inner start) × AllFrom Q (i + 1 + count d) (D p (i + 1 + count d) pc end)
  one_lines Q d p i inner start pc end h =
      let nd = length_derived d (i + 1) inner start in
      from_parts Q (D d (i + 1) inner start) (D p (i + 1 + count d) pc end) (i + 1) (i + 1 + count d) (omega (arith, nd)) h

  module _ (E : ℕ → Line) where
    abbrev pub IsAt : ℕ → Line → Type 0
    IsAt j x = E j ≡ x

    last_walk : (p : Plan) (i last pc t : ℕ) → AllFrom IsAt i (D p i pc t) → AreSome p ⊎ (t ≡ (E last).end.number)
        → (E (last_of p i last)).end.number ≡ W p i pc t
    last_walk Done i last pc t h s = ⊎_elim (λ x. absurd x) (λ x. sym x) s
    last_walk (Skip w p) i last pc t h s = last_walk p (i + 1) i pc _ h.1 (inr (sym (ap (λ (z : Line). z.end.number) h.0)))
    last_walk (Assign w x e p) i last pc t h s = last_walk p (i + 1) i pc _ h.1 (inr (sym (ap (λ (z : Line). z.end.number) h.0)))
    last_walk (Put w f n j e p) i last pc t h s = last_walk p (i + 1) i pc _ h.1 (inr (sym (ap (λ (z : Line). z.end.number) h.0)))
    last_walk (Sleep w e p) i last pc t h s = last_walk p (i + 1) i pc _ h.1 (inr (sym (ap (λ (z : Line). z.end.number) h.0)))
    last_walk (If w e a b p) i last pc t h s =
        let inner = lat.join pc (label_of lat g e) in
        let start = after lat g t (placed ms w i) e in
        let end = lat.join (W a (i + 1) inner start) (W b (i + 1 + count a) inner start) in
        let q = if_lines IsAt a b p i inner start pc end h.1 in
        last_walk p (i + 1 + count a + count b) i pc end q.2 (inr (sym (ap (λ (z : Line). z.end.number) h.0)))
    last_walk (While w e d p) i last pc t h s =
        let inner = lat.join pc (label_of lat g e) in
        let end = W d (i + 1) inner (loop_start lat g t (placed ms w i) e) in
        let q = one_lines IsAt d p i inner end pc end h.1 in
        last_walk p (i + 1 + count d) i pc end q.1 (inr (sym (ap (λ (z : Line). z.end.number) h.0)))
    last_walk (Mitigate w k l e d p) i last pc t h s =
        let start = after lat g t (placed ms w i) e in
        let q = one_lines IsAt d p i pc start pc start h.1 in
        last_walk p (i + 1 + count d) i pc start q.1 (inr (sym (ap (λ (z : Line). z.end.number) h.0)))

    -- what a list closes, its last command does
    close_here : (p : Plan) (c : Close) (j pc e : ℕ) → Closes lat E c (W p j pc e) → Closes lat E (closing p c) e
    close_here Done c j pc e h = h
    close_here (Skip w p) c j pc e h = tt
    close_here (Assign w x f p) c j pc e h = tt
    close_here (Put w x n i f p) c j pc e h = tt
    close_here (Sleep w f p) c j pc e h = tt
    close_here (If w f a b p) c j pc e h = tt
    close_here (While w f d p) c j pc e h = tt
    close_here (Mitigate w n l f d p) c j pc e h = tt

    module _ (ll : IsLattice lat) (size : ℕ) (ds : List Declaration) (below : (j : ℕ) → HasLabels size (E j)) where
      abbrev pub Fit : ℕ → Place → Type 0
      Fit j p = IsFormed size p.act (E j) × Meets lat E p (E j)

      -- a line that is the walk's
      fits : (i : ℕ) (w : Written) (pc h t end : ℕ) (r : Rule) (v : Option Label) (act : Act) (s : Start) (c : Close)
          → E i ≡ line_of r pc t (placed ms w i) end v → r ≡ rule_of act → HasLevel act v →
          t ≡ start_of lat E s → ms i ≡ own w.labels h → KeepsLevel lat.bottom act v → Flows lat h (ms i).ew
          → KeepsRule lat act (line_of r pc t (placed ms w i) end v) → Closes lat E c end →
          Fit i (record { written = w.labels; pc = label pc; here = label h; act = act; start = s; close = c })
      fits i w pc h t end r v act s c is rule has start marks level writes keeps closes =
          let pl : Place = record { written = w.labels; pc = label pc; here = label h; act = act; start = s; close = c } in
          let x = line_of r pc t (placed ms w i) end v in (
            record { rule = ap (λ (z : Line). z.rule) is ∙ rule; labels = below i; level = subst (λ (z : Line). HasLevel act z.level) (sym is) has },
            subst (λ z. Meets lat E pl z) (sym is) (record {
              pc = refl;
              start = start;
              marks = marks;
              level = level;
              writes =
                  writes;
              rule = keeps;
              close = closes;
            }),
          )

      pub complete : (p : Plan) (i pc : ℕ) (s : Start) (c : Close) (t : ℕ) → AllFrom IsAt i (D p i pc t) → AllHold lat (conditions lat g (T p i) pc t)
          → HasOwn lat g ms p i pc → Keeps ms ls p i →
          AreKnown size ds p → t ≡ start_of lat E s → (AreSome p → Closes lat E c (W p i pc t)) → AllFrom Fit i (places lat g p i pc s c)
      complete Done i pc s c t d h o k kn e q = tt
      complete (Skip w p) i pc s c t d h o k kn e q =
          let end = lat.join t (ms i).er in (
            fits i w pc pc t end RSkip None _ s (closing p c) d.0 refl refl e o.0 tt h.0 refl (close_here p c (i + 1) pc end (q tt)),
            complete p (i + 1) pc (After i) c end d.1 h.1 o.1 k.1 kn.1 (sym (ap (λ (z : Line). z.end.number) d.0)) (λ _. q tt),
          )
      complete (Assign w x f p) i pc s c t d h o k kn e q =
          let dm = demand lat pc t (placed ms w i) (label_of lat g f) (index_label lat g f) in
          let end = lat.join (g x) dm in (
            fits i w pc (here lat g pc f) t end RAsgn None _ s (closing p c) d.0 refl refl e o.0 tt h.1.0 (
              h.0,
              absorbs lat ll dm (g x) h.0,
            ) (close_here p c (i + 1) pc end (q tt)),
            complete p (i + 1) pc (After i) c end d.1 h.1.1 o.1 k.1 kn.3 (sym (ap (λ (z : Line). z.end.number) d.0)) (λ _. q tt),
          )
      complete (Put w x n j f p) i pc s c t d h o k kn e q =
          let dm = demand lat pc t (placed ms w i) (label_of lat g f) (put_index lat g j f) in
          let end = lat.join (g x) dm in (
            fits i w pc (lat.join pc (put_index lat g j f)) t end RAsgn None _ s (closing p c) d.0 refl refl e o.0 tt h.1.0 (
              h.0,
              absorbs lat ll dm (g x) h.0,
            ) (close_here p c (i + 1) pc end (q tt)),
            complete p (i + 1) pc (After i) c end d.1 h.1.1 o.1 k.1 kn.4 (sym (ap (λ (z : Line). z.end.number) d.0)) (λ _. q tt),
          )
      complete (Sleep w f p) i pc s c t d h o k kn e q =
          let end = after lat g t (placed ms w i) f in (
            fits i w pc (here lat g pc f) t end RSleep None _ s (closing p c) d.0 refl refl e o.0 tt h.0 refl (close_here p c (i + 1) pc end (q tt)),
            complete p (i + 1) pc (After i) c end d.1 h.1 o.1 k.1 kn.2 (sym (ap (λ (z : Line). z.end.number) d.0)) (λ _. q tt),
          )
      complete (If w f a b p) i pc s c t d h o k kn e q =
          let l = label_of lat g f in
          let inner = lat.join pc l in
          let start = after lat g t (placed ms w i) f in
          let ia = i + 1 in
          let ib = i + 1 + count a in
          let ip = i + 1 + count a + count b in
          let wa = W a ia inner start in
          let wb = W b ib inner start in
          let end = lat.join wa wb in
          let joins = ClosesIf i (last_of a ia ia) in
          let dd = if_lines IsAt a b p i inner start pc end d.1 in
          let y = parts_hold lat (conditions lat g (T a ia) inner start) (conditions lat g (T b ib) inner start ++ conditions lat g (T p ip) pc end) h.1 in
          let z = parts_hold lat (conditions lat g (T b ib) inner start) (conditions lat g (T p ip) pc end) y.1 in
          let from : start ≡ start_of lat E (Within i (label l)) = ap (λ (v : Line). lat.join (lat.join v.start.number l) v.read.number) (sym d.0) in
          let ends : (E i).end.number ≡ end = ap (λ (v : Line). v.end.number) d.0 in
          let closes : (E i).end.number ≡ lat.join (E (last_of a ia ia)).end.number wb =
          ends ∙ ap (λ v. lat.join v wb) (sym (last_walk a ia ia inner start dd.0 (inl kn.2))) in
          let ra = complete a ia inner (Within i (label l)) Open start dd.0 y.0 o.1 k.1 kn.4 from (λ _. tt) in
          let rb = complete b ib inner (Within i (label l)) joins start dd.1 z.0 o.2 k.2 kn.5 from (λ _. closes) in
          let rp = complete p ip pc (After i) c end dd.2 z.1 o.3 k.3 kn.6 (sym ends) (λ _. q tt) in
          let na = length_places lat g a ia inner (Within i (label l)) Open in
          let nb = length_places lat g b ib inner (Within i (label l)) joins in (
            fits i w pc (here lat g pc f) t end RIf None _ s (closing p c) d.0 refl refl e o.0 tt h.0 tt (close_here p c ip pc end (q tt)),
            from_both Fit (places lat g a ia inner (Within i (label l)) Open) (places lat g b ib inner (Within i (label l)) joins
                ++ places lat g p ip pc (After i) c) ia ib (omega (arith, na)) ra
                (from_both Fit (places lat g b ib inner (Within i (label l)) joins) (places lat g p ip pc (After i) c) ib ip (omega (arith, nb)) rb rp),
          )
      complete (While w f b p) i pc s c t d h o k kn e q =
          let l = label_of lat g f in
          let inner = lat.join pc l in
          let start = loop_start lat g t (placed ms w i) f in
          let ib = i + 1 in
          let ip = i + 1 + count b in
          let end = W b ib inner start in
          let dd = one_lines IsAt b p i inner end pc end d.1 in
          let y = parts_hold lat (conditions lat g (T b ib) inner end) (conditions lat g (T p ip) pc end) h.1 in
          let ends : (E i).end.number ≡ end = ap (λ (v : Line). v.end.number) d.0 in
          let closes : W b ib inner end ≡ (E i).end.number = walk_stays lat ll g (T b ib) inner start ∙ sym ends in
          let rb = complete b ib inner (Around i) (ClosesWhile i) end dd.0 y.0 o.1 k.1 kn.3 (sym ends) (λ _. closes) in
          let rp = complete p ip pc (After i) c end dd.1 y.1 o.2 k.2 kn.4 (sym ends) (λ _. q tt) in
          let nb = length_places lat g b ib inner (Around i) (ClosesWhile i) in (
            fits i w pc (here lat g pc f) t end RWhile None _ s (closing p c) d.0 refl refl e o.0 tt h.0 (walk_grows lat ll g (T b ib) inner start)
                (close_here p c ip pc end (q tt)),
            from_both Fit (places lat g b ib inner (Around i) (ClosesWhile i)) (places lat g p ip pc (After i) c) ib ip (omega (arith, nb)) rb rp,
          )
      complete (Mitigate w n v f b p) i pc s c t d h o k kn e q =
          let l = label_of lat g f in
          let start = after lat g t (placed ms w i) f in
          let ib = i + 1 in
          let ip = i + 1 + count b in
          let last : Condition = record { rule = RMtg; pos = w.pos; have = W b ib pc start; allowed = ls n; side = OfLevel n (is_some v) } in
          let dd = one_lines IsAt b p i pc start pc start d.1 in
          let y = parts_hold lat (conditions lat g (T b ib) pc start) (last ∷ conditions lat g (T p ip) pc start) h.1 in
          let from : start ≡ start_of lat E (Within i (label l)) = ap (λ (z : Line). lat.join (lat.join z.start.number l) z.read.number) (sym d.0) in
          let ends : (E i).end.number ≡ start = ap (λ (z : Line). z.end.number) d.0 in
          let closes : Flows lat (W b ib pc start) (level_in lat.bottom (E i).level) =
          subst (λ (z : Line). Flows lat (W b ib pc start) (level_in lat.bottom z.level)) (sym d.0) y.1.0 in
          let rb = complete b ib pc (Within i (label l)) (ClosesMitigate i) start dd.0 y.0 o.1 k.2 kn.4 from (λ _. closes) in
          let rp = complete p ip pc (After i) c start dd.1 y.1.1 o.2 k.3 kn.5 (sym ends) (λ _. q tt) in
          let nb = length_places lat g b ib pc (Within i (label l)) (ClosesMitigate i) in (
            fits i w pc (here lat g pc f) t start RMtg (Some (label (ls n))) _ s (closing p c) d.0 refl (
              label (ls n),
              refl,
            ) e o.0 k.1 h.0 refl (close_here p c ip pc start (q tt)),
            from_both Fit (places lat g b ib pc (Within i (label l)) (ClosesMitigate i)) (places lat g p ip pc (After i) c) ib ip (omega (arith, nb)) rb rp,
          )

  -- the labels of the lines are labels of the lattice
  module _ (n : ℕ) (low : lat.bottom < n) (closed : (a b : ℕ) → a < n → b < n → lat.join a b < n) (gb : (x : ℕ) → g x < n) (mb : (i : ℕ)
      → ((ms i).er < n) × ((ms i).ew < n)) (lb : (k : ℕ) → ls k < n) where
    abbrev Low : ℕ → Line → Type 0
    Low j x = HasLabels n x

    expression_below : (e : Expression) → label_of lat g e < n
    expression_below = label_below lat n low closed g gb

    after_below : (w : Written) (i t : ℕ) (e : Expression) → t < n → after lat g t (placed ms w i) e < n
    after_below w i t e h = closed (lat.join t (label_of lat g e)) (ms i).er (closed t (label_of lat g e) h (expression_below e)) (mb i).0

    loop_below : (w : Written) (i t : ℕ) (e : Expression) → t < n → loop_start lat g t (placed ms w i) e < n
    loop_below w i t e h = closed (lat.join (label_of lat g e) t) (ms i).er (closed (label_of lat g e) t (expression_below e) h) (mb i).0

    demand_below : (w : Written) (i pc t le li x : ℕ) → pc < n → t < n → le < n → li < n → lat.join (g x) (demand lat pc t (placed ms w i) le li) < n
    demand_below w i pc t le li x hp ht hl hi =
        closed (g x) _ (gb x) (closed _ (ms i).er (closed _ t (closed _ pc (closed le li hl hi) hp) ht) (mb i).0)

    put_below : (j e : Expression) → put_index lat g j e < n
    put_below j e = closed (label_of lat g j) (index_label lat g e) (expression_below j) (index_below lat n low closed g gb e)

    walk_below : (p : Plan) (i pc t : ℕ) → pc < n → t < n → W p i pc t < n
    walk_below Done i pc t hp ht = ht
    walk_below (Skip w p) i pc t hp ht = walk_below p (i + 1) pc _ hp (closed t (ms i).er ht (mb i).0)
    walk_below (Assign w x e p) i pc t hp ht =
        walk_below p (i + 1) pc _ hp (demand_below w i pc t (label_of lat g e) (index_label lat g e) x hp ht (expression_below e)
        (index_below lat n low closed g gb e))
    walk_below (Put w x m j e p) i pc t hp ht =
        walk_below p (i + 1) pc _ hp (demand_below w i pc t (label_of lat g e) (put_index lat g j e) x hp ht (expression_below e) (put_below j e))
    walk_below (Sleep w e p) i pc t hp ht = walk_below p (i + 1) pc _ hp (after_below w i t e ht)
    walk_below (If w e a b p) i pc t hp ht =
        let inner = lat.join pc (label_of lat g e) in
        let start = after lat g t (placed ms w i) e in
        let hi = closed pc (label_of lat g e) hp (expression_below e) in
        let hs = after_below w i t e ht in
        walk_below p (i + 1 + count a + count b) pc _ hp
        (closed _ _ (walk_below a (i + 1) inner start hi hs) (walk_below b (i + 1 + count a) inner start hi hs))
    walk_below (While w e d p) i pc t hp ht =
        walk_below p (i + 1 + count d) pc _ hp (walk_below d (i + 1) (lat.join pc (label_of lat g e)) (loop_start lat g t (placed ms w i) e)
        (closed pc (label_of lat g e) hp (expression_below e)) (loop_below w i t e ht))
    walk_below (Mitigate w k l e d p) i pc t hp ht = walk_below p (i + 1 + count d) pc _ hp (after_below w i t e ht)

    line_below : (r : Rule) (w : Written) (i pc t end : ℕ) → pc < n → t < n → end < n → HasLabels n (line_of r pc t (placed ms w i) end None)
    line_below r w i pc t end hp ht he = record { pc = hp; start = ht; read = (mb i).0; write = (mb i).1; end = he; level = tt }

    pub derived_below : (p : Plan) (i pc t : ℕ) → pc < n → t < n → AllFrom Low i (D p i pc t)
    derived_below Done i pc t hp ht = tt
    derived_below (Skip w p) i pc t hp ht = let e = closed t (ms i).er ht (mb i).0 in (line_below RSkip w i pc t _ hp ht e, derived_below p (i + 1) pc _ hp e)
    derived_below (Assign w x f p) i pc t hp ht =
        let e = demand_below w i pc t (label_of lat g f) (index_label lat g f) x hp ht (expression_below f) (index_below lat n low closed g gb f) in
        (line_below RAsgn w i pc t _ hp ht e, derived_below p (i + 1) pc _ hp e)
    derived_below (Put w x m j f p) i pc t hp ht =
        let e = demand_below w i pc t (label_of lat g f) (put_index lat g j f) x hp ht (expression_below f) (put_below j f) in
        (line_below RAsgn w i pc t _ hp ht e, derived_below p (i + 1) pc _ hp e)
    derived_below (Sleep w f p) i pc t hp ht = let e = after_below w i t f ht in (line_below RSleep w i pc t _ hp ht e, derived_below p (i + 1) pc _ hp e)
    derived_below (If w f a b p) i pc t hp ht =
        let inner = lat.join pc (label_of lat g f) in
        let start = after lat g t (placed ms w i) f in
        let hi = closed pc (label_of lat g f) hp (expression_below f) in
        let hs = after_below w i t f ht in
        let ib = i + 1 + count a in
        let ip = i + 1 + count a + count b in
        let end = lat.join (W a (i + 1) inner start) (W b ib inner start) in
        let he = closed _ _ (walk_below a (i + 1) inner start hi hs) (walk_below b ib inner start hi hs) in
        let na = length_derived a (i + 1) inner start in
        let nb = length_derived b ib inner start in (
          line_below RIf w i pc t end hp ht he,
          from_both Low (D a (i + 1) inner start) (D b ib inner start ++ D p ip pc end) (i + 1) ib (omega (arith, na))
              (derived_below a (i + 1) inner start hi hs)
              (from_both Low (D b ib inner start) (D p ip pc end) ib ip (omega (arith, nb)) (derived_below b ib inner start hi hs)
              (derived_below p ip pc end hp he)),
        )
    derived_below (While w f d p) i pc t hp ht =
        let inner = lat.join pc (label_of lat g f) in
        let hi = closed pc (label_of lat g f) hp (expression_below f) in
        let ip = i + 1 + count d in
        let end = W d (i + 1) inner (loop_start lat g t (placed ms w i) f) in
        let he = walk_below d (i + 1) inner (loop_start lat g t (placed ms w i) f) hi (loop_below w i t f ht) in
        let nd = length_derived d (i + 1) inner end in (
          line_below RWhile w i pc t end hp ht he,
          from_both Low (D d (i + 1) inner end) (D p ip pc end) (i + 1) ip (omega (arith, nd)) (derived_below d (i + 1) inner end hi he)
              (derived_below p ip pc end hp he),
        )
    derived_below (Mitigate w k l f d p) i pc t hp ht =
        let start = after lat g t (placed ms w i) f in
        let hs = after_below w i t f ht in
        let ip = i + 1 + count d in
        let nd = length_derived d (i + 1) pc start in (
          record { pc = hp; start = ht; read = (mb i).0; write = (mb i).1; end = hs; level = lb k },
          from_both Low (D d (i + 1) pc start) (D p ip pc start) (i + 1) ip (omega (arith, nd)) (derived_below d (i + 1) pc start hp hs)
              (derived_below p ip pc start hp hs),
        )

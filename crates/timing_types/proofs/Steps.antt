-- What one command's walk comes to, from the walks of its parts.
use Rattle.std.proofs.Common.{◌≡◌, ℕ, ◌+◌, refl, sym, ap, ◌∙◌, subst, List, ◌∷◌, ◌++◌}
use Rattle.std.specs.Prelude.{false, Option, Some, is_some}
use Rattle.std.proofs.lemmas.Bool.{cond-true, cond-false}
use Rattle.label_lattice.specs.Lattice.{Lattice, Flows}
use Rattle.label_lattice.specs.declared.label.Label.{Label}
use Rattle.mit_syntax.specs.Expression.{Expression}
use Rattle.mit_syntax.specs.Todo.{Marks, Done, If, While, Mitigate}
use Rattle.mit_syntax.specs.Plan.{Written, Plan, count}
use Rattle.timing_types.specs.declared.rule.TypeFault.{TypeFault}
use Rattle.timing_types.specs.declared.rule.TypeFault.TheVariants.{Refused}
use Rattle.timing_types.specs.declared.rule.Rule.TheVariants.{If as RIf, While as RWhile, Mtg as RMtg}
use Rattle.timing_types.specs.Typing.{label_of, index_label}
use Rattle.timing_types.specs.Placed.{Placed, Tree, placed, labelled}
use Rattle.timing_types.specs.Walk.{Condition, here, after, loop_start, walk_end, conditions, writes, told, first_broken, Passes, OfLevel}
use Rattle.timing_types.proofs.Walk.{broken_none, broken_some}

module _ (lat : Lattice) (g : ℕ → ℕ) (ms : ℕ → Marks) (ls : ℕ → ℕ) where
  abbrev T : Plan → ℕ → Tree
  T = labelled ms ls

  abbrev pub Walked : Plan → ℕ → ℕ → ℕ → ℕ → Type 0
  Walked a n pc t end = Passes lat g pc (T a n) t Done end

  abbrev pub broken_at : Plan → ℕ → ℕ → ℕ → Option TypeFault
  broken_at a n pc t = first_broken lat (conditions lat g (T a n) pc t)

  moved : (a : Plan) (n n' pc pc' t t' end : ℕ) → n ≡ n' → pc ≡ pc' → t ≡ t' → Walked a n pc t end → Walked a n' pc' t' end
  moved a n n' pc pc' t t' end h1 h2 h3 h = subst (λ z. Walked a n' pc' z end) h3 (subst (λ z. Walked a n' z t end) h2 (subst (λ z. Walked a z pc t end) h1 h))

  moved_broken : (a : Plan) (n n' pc pc' t t' : ℕ) (r : TypeFault) → n ≡ n' → pc ≡ pc' → t ≡ t' → broken_at a n pc t ≡ Some r → broken_at a n' pc' t' ≡ Some r
  moved_broken a n n' pc pc' t t' r h1 h2 h3 h =
      subst (λ z. broken_at a n' pc' z ≡ Some r) h3 (subst (λ z. broken_at a n' z t ≡ Some r) h2 (subst (λ z. broken_at a z pc t ≡ Some r) h1 h))

  moved_end : (a : Plan) (n n' pc pc' t t' end : ℕ) → n ≡ n' → pc ≡ pc' → t ≡ t' → end ≡ walk_end lat g (T a n) pc t → end ≡ walk_end lat g (T a n') pc' t'
  moved_end a n n' pc pc' t t' end h1 h2 h3 h = h ∙ ap (λ z. walk_end lat g (T a z) pc t) h1 ∙ ap (λ z. walk_end lat g (T a n') z t) h2
      ∙ ap (λ z. walk_end lat g (T a n') pc' z) h3

  -- the first condition holds
  first_holds : (c : Condition) (cs : List Condition) → Flows lat c.have c.allowed → first_broken lat (c ∷ cs) ≡ first_broken lat cs
  first_holds c cs f = cond-true (lat.flows c.have c.allowed) (first_broken lat cs) (Some (told c)) f

  -- command number i, which reads e at pc from t: le is e's label, er the read label
  module _ (w : Written) (e : Expression) (i pc t le er : ℕ) (hle : le ≡ label_of lat g e) (her : er ≡ (ms i).er) where
    abbrev m : Placed
    m = placed ms w i

    abbrev I : ℕ
    I = lat.join pc (label_of lat g e)

    abbrev S : ℕ
    S = after lat g t m e

    abbrev Z : ℕ
    Z = loop_start lat g t m e

    inner_is : (inner : ℕ) → inner ≡ lat.join pc le → inner ≡ I
    inner_is inner h = h ∙ ap (lat.join pc) hle

    start_is : (start : ℕ) → start ≡ lat.join (lat.join t le) er → start ≡ S
    start_is start h = h ∙ ap (λ z. lat.join (lat.join t z) er) hle ∙ ap (lat.join (lat.join t (label_of lat g e))) her

    loop_is : (start : ℕ) → start ≡ lat.join (lat.join le t) er → start ≡ Z
    loop_is start h = h ∙ ap (λ z. lat.join (lat.join z t) er) hle ∙ ap (lat.join (lat.join (label_of lat g e) t)) her

    -- its end, where no condition is tested
    pub if_ends : (q a b rest : Plan) (n k inner start ea eb end : ℕ) → q ≡ If w e a b rest → inner ≡ lat.join pc le → start ≡ lat.join (lat.join t le) er →
        n ≡ i + 1 + count a → k ≡ n + count b → ea ≡ walk_end lat g (T a (i + 1)) inner start → eb ≡ walk_end lat g (T b n) inner start → end ≡ lat.join ea eb →
        walk_end lat g (T q i) pc t ≡ walk_end lat g (T rest k) pc end
    if_ends q a b rest n k inner start ea eb end hq hi hs hn hk ha hb he =
        let one = moved_end a (i + 1) (i + 1) inner I start S ea refl (inner_is inner hi) (start_is start hs) ha in
        let other = moved_end b n (i + 1 + count a) inner I start S eb hn (inner_is inner hi) (start_is start hs) hb in
        let last : i + 1 + count a + count b ≡ k = ap (λ z. z + count b) (sym hn) ∙ sym hk in
        ap (λ z. walk_end lat g (T z i) pc t) hq
        ∙ ap (λ z. walk_end lat g (T rest z) pc (lat.join (walk_end lat g (T a (i + 1)) I S) (walk_end lat g (T b (i + 1 + count a)) I S))) last
        ∙ ap (λ z. walk_end lat g (T rest k) pc (lat.join z (walk_end lat g (T b (i + 1 + count a)) I S))) (sym one)
        ∙ ap (λ z. walk_end lat g (T rest k) pc (lat.join ea z)) (sym other) ∙ ap (walk_end lat g (T rest k) pc) (sym he)

    pub while_ends : (q a rest : Plan) (k inner start end : ℕ) → q ≡ While w e a rest → inner ≡ lat.join pc le → start ≡ lat.join (lat.join le t) er →
        k ≡ i + 1 + count a → end ≡ walk_end lat g (T a (i + 1)) inner start →
        walk_end lat g (T q i) pc t ≡ walk_end lat g (T rest k) pc end
    while_ends q a rest k inner start end hq hi hs hk ha =
        let one = moved_end a (i + 1) (i + 1) inner I start Z end refl (inner_is inner hi) (loop_is start hs) ha in
        ap (λ z. walk_end lat g (T z i) pc t) hq ∙ ap (λ z. walk_end lat g (T rest z) pc (walk_end lat g (T a (i + 1)) I Z)) (sym hk)
        ∙ ap (walk_end lat g (T rest k) pc) (sym one)

    pub mitigate_ends : (q a rest : Plan) (j k start : ℕ) (l : Option Label) → q ≡ Mitigate w j l e a rest → start ≡ lat.join (lat.join t le) er →
        k ≡ i + 1 + count a → walk_end lat g (T q i) pc t ≡ walk_end lat g (T rest k) pc start
    mitigate_ends q a rest j k start l hq hs hk =
        ap (λ z. walk_end lat g (T z i) pc t) hq ∙ ap (λ z. walk_end lat g (T rest z) pc S) (sym hk)
        ∙ ap (walk_end lat g (T rest k) pc) (sym (start_is start hs))

    -- the same where its own condition holds: h is `pc | li`, and ew the write label
    module _ (li ew h : ℕ) (hli : li ≡ index_label lat g e) (hew : ew ≡ (ms i).ew) (hh : h ≡ lat.join pc li) (low : Flows lat h ew) where
      f : Flows lat (here lat g pc e) (ms i).ew
      f = subst (λ z. Flows lat z (ms i).ew) (hh ∙ ap (lat.join pc) hli) (subst (λ z. Flows lat h z) hew low)

      module _ (q a b rest : Plan) (n inner start : ℕ) (hq : q ≡ If w e a b rest) (hi : inner ≡ lat.join pc le) (hs : start ≡ lat.join (lat.join t le) er) where
        abbrev A : Tree
        A = T a (i + 1)

        abbrev B : Tree
        B = T b (i + 1 + count a)

        abbrev R : Tree
        R = T rest (i + 1 + count a + count b)

        abbrev after_both : List Condition
        after_both = conditions lat g R pc (lat.join (walk_end lat g A I S) (walk_end lat g B I S))

        one_moved : (ea : ℕ) → Walked a (i + 1) inner start ea → Walked a (i + 1) I S ea
        one_moved ea = moved a (i + 1) (i + 1) inner I start S ea refl (inner_is inner hi) (start_is start hs)

        other_moved : (eb : ℕ) → n ≡ i + 1 + count a → Walked b n inner start eb → Walked b (i + 1 + count a) I S eb
        other_moved eb hn = moved b n (i + 1 + count a) inner I start S eb hn (inner_is inner hi) (start_is start hs)

        pub if_passes : (k ea eb end : ℕ) → n ≡ i + 1 + count a → k ≡ n + count b → Walked a (i + 1) inner start ea
            → Walked b n inner start eb → end ≡ lat.join ea eb →
            Passes lat g pc (T q i) t (T rest k) end
        if_passes k ea eb end hn hk ha hb he =
            let one = one_moved ea ha in
            let other = other_moved eb hn hb in
            let j : lat.join (walk_end lat g A I S) (walk_end lat g B I S) ≡ end =
            ap (λ z. lat.join z (walk_end lat g B I S)) one.0 ∙ ap (lat.join ea) other.0 ∙ sym he in
            let last : i + 1 + count a + count b ≡ k = ap (λ z. z + count b) (sym hn) ∙ sym hk in (
              ap (λ z. walk_end lat g (T z i) pc t) hq ∙ ap (walk_end lat g R pc) j ∙ ap (λ z. walk_end lat g (T rest z) pc end) last,
              ap (λ z. first_broken lat (conditions lat g (T z i) pc t)) hq
                  ∙ first_holds (writes RIf m (here lat g pc e)) (conditions lat g A I S ++ (conditions lat g B I S ++ after_both)) f
                  ∙ broken_none lat (conditions lat g A I S) (conditions lat g B I S ++ after_both) one.1
                  ∙ broken_none lat (conditions lat g B I S) after_both other.1
                  ∙ ap (λ z. first_broken lat (conditions lat g R pc z)) j ∙ ap (λ z. first_broken lat (conditions lat g (T rest z) pc end)) last,
            )

        pub if_broken_one : (r : TypeFault) → broken_at a (i + 1) inner start ≡ Some r → first_broken lat (conditions lat g (T q i) pc t) ≡ Some r
        if_broken_one r h1 =
            ap (λ z. first_broken lat (conditions lat g (T z i) pc t)) hq
            ∙ first_holds (writes RIf m (here lat g pc e)) (conditions lat g A I S ++ (conditions lat g B I S ++ after_both)) f
            ∙ broken_some lat (conditions lat g A I S) (conditions lat g B I S ++ after_both) r
            (moved_broken a (i + 1) (i + 1) inner I start S r refl (inner_is inner hi) (start_is start hs) h1)

        pub if_broken_other : (ea : ℕ) (r : TypeFault) → n ≡ i + 1 + count a → Walked a (i + 1) inner start ea → broken_at b n inner start ≡ Some r →
            first_broken lat (conditions lat g (T q i) pc t) ≡ Some r
        if_broken_other ea r hn ha h1 =
            ap (λ z. first_broken lat (conditions lat g (T z i) pc t)) hq
            ∙ first_holds (writes RIf m (here lat g pc e)) (conditions lat g A I S ++ (conditions lat g B I S ++ after_both)) f
            ∙ broken_none lat (conditions lat g A I S) (conditions lat g B I S ++ after_both) (one_moved ea ha).1
            ∙ broken_some lat (conditions lat g B I S) after_both r
            (moved_broken b n (i + 1 + count a) inner I start S r hn (inner_is inner hi) (start_is start hs) h1)

      module _ (q a rest : Plan) (inner start stay : ℕ) (hq : q ≡ While w e a rest) (hi : inner ≡ lat.join pc le) (hs : start ≡ lat.join (lat.join le t) er)
          (hstay : stay ≡ walk_end lat g (T a (i + 1)) inner start) where
        abbrev C : Tree
        C = T a (i + 1)

        abbrev X : Tree
        X = T rest (i + 1 + count a)

        abbrev Y : ℕ
        Y = walk_end lat g C I Z

        stay_is : stay ≡ Y
        stay_is = moved_end a (i + 1) (i + 1) inner I start Z stay refl (inner_is inner hi) (loop_is start hs) hstay

        pub while_passes : (k end : ℕ) → k ≡ i + 1 + count a → Walked a (i + 1) inner stay end → Passes lat g pc (T q i) t (T rest k) stay
        while_passes k end hk ha =
            let body = moved a (i + 1) (i + 1) inner I stay Y end refl (inner_is inner hi) stay_is ha in (
              ap (λ z. walk_end lat g (T z i) pc t) hq ∙ ap (walk_end lat g X pc) (sym stay_is) ∙ ap (λ z. walk_end lat g (T rest z) pc stay) (sym hk),
              ap (λ z. first_broken lat (conditions lat g (T z i) pc t)) hq
                  ∙ first_holds (writes RWhile m (here lat g pc e)) (conditions lat g C I Y ++ conditions lat g X pc Y) f
                  ∙ broken_none lat (conditions lat g C I Y) (conditions lat g X pc Y) body.1
                  ∙ ap (λ z. first_broken lat (conditions lat g X pc z)) (sym stay_is)
                  ∙ ap (λ z. first_broken lat (conditions lat g (T rest z) pc stay)) (sym hk),
            )

        pub while_broken : (r : TypeFault) → broken_at a (i + 1) inner stay ≡ Some r → first_broken lat (conditions lat g (T q i) pc t) ≡ Some r
        while_broken r h1 =
            ap (λ z. first_broken lat (conditions lat g (T z i) pc t)) hq
            ∙ first_holds (writes RWhile m (here lat g pc e)) (conditions lat g C I Y ++ conditions lat g X pc Y) f
            ∙ broken_some lat (conditions lat g C I Y) (conditions lat g X pc Y) r
            (moved_broken a (i + 1) (i + 1) inner I stay Y r refl (inner_is inner hi) stay_is h1)

      module _ (q a rest : Plan) (j : ℕ) (l : Option Label) (start : ℕ) (hq : q ≡ Mitigate w j l e a rest) (hs : start ≡ lat.join (lat.join t le) er) where
        abbrev D : Tree
        D = T a (i + 1)

        abbrev U : Tree
        U = T rest (i + 1 + count a)

        abbrev last : Condition
        last = record { rule = RMtg; pos = m.pos; have = walk_end lat g D pc S; allowed = ls j; side = OfLevel j (is_some l) }

        abbrev tail : List Condition
        tail = last ∷ conditions lat g U pc S

        part_moved : (end : ℕ) → Walked a (i + 1) pc start end → Walked a (i + 1) pc S end
        part_moved end = moved a (i + 1) (i + 1) pc pc start S end refl refl (start_is start hs)

        pub mitigate_passes : (k end lv : ℕ) → k ≡ i + 1 + count a → Walked a (i + 1) pc start end → lv ≡ ls j → Flows lat end lv
            → Passes lat g pc (T q i) t (T rest k) start
        mitigate_passes k end lv hk ha hl hf =
            let body = part_moved end ha in
            let below : Flows lat (walk_end lat g D pc S) (ls j) = subst (λ z. Flows lat z (ls j)) (sym body.0) (subst (λ z. Flows lat end z) hl hf) in
            let s = sym (start_is start hs) in (
              ap (λ z. walk_end lat g (T z i) pc t) hq ∙ ap (walk_end lat g U pc) s ∙ ap (λ z. walk_end lat g (T rest z) pc start) (sym hk),
              ap (λ z. first_broken lat (conditions lat g (T z i) pc t)) hq
                  ∙ first_holds (writes RMtg m (here lat g pc e)) (conditions lat g D pc S ++ tail) f ∙ broken_none lat (conditions lat g D pc S) tail body.1
                  ∙ first_holds last (conditions lat g U pc S) below
                  ∙ ap (λ z. first_broken lat (conditions lat g U pc z)) s ∙ ap (λ z. first_broken lat (conditions lat g (T rest z) pc start)) (sym hk),
            )

        pub mitigate_broken : (r : TypeFault) → broken_at a (i + 1) pc start ≡ Some r → first_broken lat (conditions lat g (T q i) pc t) ≡ Some r
        mitigate_broken r h1 =
            ap (λ z. first_broken lat (conditions lat g (T z i) pc t)) hq
            ∙ first_holds (writes RMtg m (here lat g pc e)) (conditions lat g D pc S ++ tail) f
            ∙ broken_some lat (conditions lat g D pc S) tail r (moved_broken a (i + 1) (i + 1) pc pc start S r refl refl (start_is start hs) h1)

        pub mitigate_high : (end lv : ℕ) (r : TypeFault) → Walked a (i + 1) pc start end → lv ≡ ls j → lat.flows end lv ≡ false →
            r ≡ Refused RMtg w.pos (record { number = end }) (record { number = lv }) → first_broken lat (conditions lat g (T q i) pc t) ≡ Some r
        mitigate_high end lv r ha hl high is =
            let body = part_moved end ha in
            let above : lat.flows (walk_end lat g D pc S) (ls j) ≡ false =
            subst (λ z. lat.flows z (ls j) ≡ false) (sym body.0) (subst (λ z. lat.flows end z ≡ false) hl high) in
            ap (λ z. first_broken lat (conditions lat g (T z i) pc t)) hq
            ∙ first_holds (writes RMtg m (here lat g pc e)) (conditions lat g D pc S ++ tail) f ∙ broken_none lat (conditions lat g D pc S) tail body.1
            ∙ cond-false (lat.flows (walk_end lat g D pc S) (ls j)) (first_broken lat (conditions lat g U pc S)) (Some (told last)) above
            ∙ ap (λ z. Some (told (record { rule = RMtg; pos = m.pos; have = z; allowed = ls j; side = OfLevel j (is_some l) }))) body.0
            ∙ ap (λ z. Some (Refused RMtg w.pos (record { number = end }) (record { number = z }))) (sym hl) ∙ ap Some (sym is)

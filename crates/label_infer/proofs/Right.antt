-- The right sides of a program's conditions are omitted labels, and the fixed parts of its left sides are labels
-- of its lattice.
use Rattle.std.proofs.Common.{◌≡◌, ℕ, ◌+◌, ◌<◌, refl, sym, ap, ◌∙◌, List, [], ◌∷◌, ◌++◌, length, get_or, arith, length-append, append_assoc}
use Rattle.std.proofs.Math.Seq.{get_or-append_seam}
use Rattle.std.specs.Prelude.{Bool, true, false, cond, ◌||◌, eqb, Option, None, Some}
use Rattle.label_lattice.specs.declared.label.Label.{Label}
use Rattle.label_lattice.specs.Lattice.{Lattice}
use Rattle.mit_syntax.specs.Expression.{Expression, Number, Variable, Binary, Element}
use Rattle.mit_syntax.specs.Todo.{Done, Skip, Assign, Put, Sleep, If, While, Mitigate}
use Rattle.mit_syntax.specs.Plan.{Plan, mitigates}
use Rattle.mit_syntax.specs.Declarations.{Declaration}
use Rattle.mit_syntax.specs.Valid.{AreMarksBelow, AreKnown, AreNumbered}
use Rattle.timing_types.specs.Walk.{Side, OfCommand, OfVariable, OfLevel}
use Rattle.label_infer.specs.Given.{written_levels}
use Rattle.label_infer.specs.Constraints.{LeftSide, Constraint, fixed, both, variable_form, label_form, index_form}
use Rattle.label_infer.specs.Constraints.{set_constraint, level_constraint}
use Rattle.label_infer.proofs.Forms.{put_form, here_form, own_form, after_form, loop_form, demand_form, guarded_end, guarded}
use Rattle.label_infer.proofs.Placed.{length_levels}

-- the label is a variable's without a written one, or a level that is not written
abbrev pub IsRight : (ℕ → Bool) → List (Option Label) → Side → Type 0
IsRight free W OfCommand = ⊥
IsRight free W (OfVariable x) = free x ≡ true
IsRight free W (OfLevel k written) = (k < length W) × (get_or W k None ≡ None)

pub record IsOpen (n : ℕ) (free : ℕ → Bool) (W : List (Option Label)) (c : Constraint) : Type 0 where
  pub base : c.have.base < n
  pub side : IsRight free W c.side

abbrev pub Each : {A : Type 0} → (A → Type 0) → List A → Type 0
Each P [] = Unit {0}
Each P (x ∷ xs) = P x × Each P xs

pub all_both : {A : Type 0} (P : A → Type 0) (xs ys : List A) → Each P xs → Each P ys → Each P (xs ++ ys)
all_both P [] ys h k = k
all_both P (x ∷ xs) ys h k = (h.0, all_both P xs ys h.1 k)

module _ (lat : Lattice) (n : ℕ) (low : lat.bottom < n) (closed : (a b : ℕ) → a < n → b < n
    → lat.join a b < n) (free : ℕ → Bool) (written : ℕ → ℕ) (small : (x : ℕ) → written x < n) (W : List (Option Label)) where
  variable_base : (x : ℕ) → (variable_form lat free written x).base < n
  variable_base x = go (free x)
    where
      go : (v : Bool) → (cond {A = LeftSide} v (record { base = lat.bottom; has = λ y. false || eqb x y }) (fixed (written x))).base < n
      go true = low
      go false = small x

  label_base : (e : Expression) → (label_form lat free written e).base < n
  label_base (Number k) = low
  label_base (Variable x) = variable_base x
  label_base (Binary o l r) = closed (label_form lat free written l).base (label_form lat free written r).base (label_base l) (label_base r)
  label_base (Element f k i) = closed (variable_form lat free written f).base (label_form lat free written i).base (variable_base f) (label_base i)

  index_base : (e : Expression) → (index_form lat free written e).base < n
  index_base (Number k) = low
  index_base (Variable x) = low
  index_base (Binary o l r) = closed (index_form lat free written l).base (index_form lat free written r).base (index_base l) (index_base r)
  index_base (Element f k i) = label_base i

  put_base : (i e : Expression) → (put_form lat free written i e).base < n
  put_base i e = closed (label_form lat free written i).base (index_form lat free written e).base (label_base i) (index_base e)

  own_base : (o : Option (Label × Label)) (h : LeftSide) → AreMarksBelow n o → h.base < n → (own_form o h).base < n
  own_base None h k l = l
  own_base (Some p) h k l = k.0

  three : (a b c : ℕ) → a < n → b < n → c < n → lat.join (lat.join a b) c < n
  three a b c f h k = closed (lat.join a b) c (closed a b f h) k

  five : (a b c d e : ℕ) → a < n → b < n → c < n → d < n → e < n → lat.join (lat.join (lat.join (lat.join a b) c) d) e < n
  five a b c d e f h k i j = three (lat.join (lat.join a b) c) d e (three a b c f h k) i j

  abbrev E : Plan → LeftSide → LeftSide → LeftSide
  E = guarded_end lat free written

  er_base : (o : Option (Label × Label)) (pc : LeftSide) (e : Expression) → AreMarksBelow n o → pc.base < n
      → (own_form o (here_form lat free written pc e)).base < n
  er_base o pc e k h = own_base o (here_form lat free written pc e) k (closed pc.base (index_form lat free written e).base h (index_base e))

  assign_base : (o : Option (Label × Label)) (pc t : LeftSide) (e : Expression) → AreMarksBelow n o → pc.base < n → t.base < n →
      (demand_form lat free written pc t (own_form o (here_form lat free written pc e)) (label_form lat free written e) (index_form lat free written e)).base <
      n
  assign_base o pc t e k hp ht = five _ _ pc.base t.base _ (label_base e) (index_base e) hp ht (er_base o pc e k hp)

  put_have : (o : Option (Label × Label)) (pc t : LeftSide) (i e : Expression) → AreMarksBelow n o → pc.base < n → t.base < n →
      (demand_form lat free written pc t (own_form o (both lat pc (put_form lat free written i e))) (label_form lat free written e)
      (put_form lat free written i e)).base < n
  put_have o pc t i e k hp ht =
      five _ _ pc.base t.base _ (label_base e) (put_base i e) hp ht
      (own_base o (both lat pc (put_form lat free written i e)) k (closed pc.base _ hp (put_base i e)))

  after_base : (o : Option (Label × Label)) (pc t : LeftSide) (e : Expression) → AreMarksBelow n o → pc.base < n → t.base < n
      → (after_form lat free written t (own_form o (here_form lat free written pc e)) e).base < n
  after_base o pc t e k hp ht = three t.base _ _ ht (label_base e) (er_base o pc e k hp)

  loop_base : (o : Option (Label × Label)) (pc t : LeftSide) (e : Expression) → AreMarksBelow n o → pc.base < n → t.base < n
      → (loop_form lat free written t (own_form o (here_form lat free written pc e)) e).base < n
  loop_base o pc t e k hp ht = three _ t.base _ (label_base e) ht (er_base o pc e k hp)

  inner_base : (pc : LeftSide) (e : Expression) → pc.base < n → (both lat pc (label_form lat free written e)).base < n
  inner_base pc e hp = closed pc.base _ hp (label_base e)

  end_base : (d : List Declaration) (p : Plan) (pc t : LeftSide) → AreKnown n d p → pc.base < n → t.base < n → (E p pc t).base < n
  end_base d Done pc t k hp ht = ht
  end_base d (Skip w p) pc t k hp ht = end_base d p pc _ k.1 hp (closed t.base _ ht (own_base w.labels pc k.0 hp))
  end_base d (Assign w x e p) pc t k hp ht = end_base d p pc _ k.3 hp (closed _ _ (variable_base x) (assign_base w.labels pc t e k.0 hp ht))
  end_base d (Put w f j i e p) pc t k hp ht = end_base d p pc _ k.4 hp (closed _ _ (variable_base f) (put_have w.labels pc t i e k.0 hp ht))
  end_base d (Sleep w e p) pc t k hp ht = end_base d p pc _ k.2 hp (after_base w.labels pc t e k.0 hp ht)
  end_base d (If w e a b p) pc t k hp ht =
      let hi = inner_base pc e hp in
      let hs = after_base w.labels pc t e k.0 hp ht in
      end_base d p pc _ k.6 hp (closed _ _ (end_base d a _ _ k.4 hi hs) (end_base d b _ _ k.5 hi hs))
  end_base d (While w e c p) pc t k hp ht = end_base d p pc _ k.4 hp (end_base d c _ _ k.3 (inner_base pc e hp) (loop_base w.labels pc t e k.0 hp ht))
  end_base d (Mitigate w j l e c p) pc t k hp ht = end_base d p pc _ k.5 hp (after_base w.labels pc t e k.0 hp ht)

  abbrev O : Constraint → Type 0
  O = IsOpen n free W

  abbrev N : Plan → LeftSide → LeftSide → List Constraint
  N = guarded lat free written

  set_open : (x : ℕ) (f : LeftSide) → f.base < n → Each O (set_constraint (free x) x f)
  set_open x f h = go (free x) refl
    where
      go : (v : Bool) → free x ≡ v → Each O (set_constraint v x f)
      go true e = (record { base = h; side = e }, tt)
      go false e = tt

  level_open : (l : Option Label) (j : ℕ) (f : LeftSide) (pre post : List (Option Label)) → f.base < n → j ≡ length pre → W ≡ pre ++ (l ∷ post)
      → Each O (level_constraint l j f)
  level_open None j f pre post h e is =
      let len : length W ≡ length pre + length (None ∷ post) = ap length is ∙ length-append pre (None ∷ post) in (
        record {
          base = h;
          side = (
            omega (arith, e, len),
            ap (λ z. get_or z j None) is ∙ ap (λ z. get_or (pre ++ (None ∷ post)) z None) e
                ∙ get_or-append_seam pre None post None,
          );
        },
        tt,
      )
  level_open (Some l) j f pre post h e is = tt

  longer : (pre a : List (Option Label)) (k m : ℕ) → length pre ≡ k → length a ≡ m → length (pre ++ a) ≡ k + m
  longer pre a k m h l = let s = length-append pre a in omega (arith, h, l, s)

  pub all_open : (d : List Declaration) (p : Plan) (pc t : LeftSide) (j : ℕ) (pre post : List (Option Label)) → AreKnown n d p → pc.base < n → t.base < n →
      AreNumbered j p → length pre ≡ j → W ≡ pre ++ (written_levels p ++ post) → Each O (N p pc t)
  all_open d Done pc t j pre post k hp ht num len is = tt
  all_open d (Skip w p) pc t j pre post k hp ht num len is = all_open d p pc _ j pre post k.1 hp (closed t.base _ ht (own_base w.labels pc k.0 hp)) num len is
  all_open d (Assign w x e p) pc t j pre post k hp ht num len is =
      let h = assign_base w.labels pc t e k.0 hp ht in
      all_both O (set_constraint (free x) x _) (N p pc _) (set_open x _ h) (all_open d p pc _ j pre post k.3 hp (closed _ _ (variable_base x) h) num len is)
  all_open d (Put w f m i e p) pc t j pre post k hp ht num len is =
      let h = put_have w.labels pc t i e k.0 hp ht in
      all_both O (set_constraint (free f) f _) (N p pc _) (set_open f _ h) (all_open d p pc _ j pre post k.4 hp (closed _ _ (variable_base f) h) num len is)
  all_open d (Sleep w e p) pc t j pre post k hp ht num len is = all_open d p pc _ j pre post k.2 hp (after_base w.labels pc t e k.0 hp ht) num len is
  all_open d (If w e a b p) pc t j pre post k hp ht num len is =
      let i = both lat pc (label_form lat free written e) in
      let s = after_form lat free written t (own_form w.labels (here_form lat free written pc e)) e in
      let hi = inner_base pc e hp in
      let hs = after_base w.labels pc t e k.0 hp ht in
      let he = closed _ _ (end_base d a i s k.4 hi hs) (end_base d b i s k.5 hi hs) in
      let wa = written_levels a in
      let wb = written_levels b in
      let wp = written_levels p in
      let s1 : W ≡ pre ++ (wa ++ ((wb ++ wp) ++ post)) = is ∙ ap (λ z. pre ++ z) (append_assoc wa (wb ++ wp) post) in
      let s2 : W ≡ (pre ++ wa) ++ (wb ++ (wp ++ post)) =
      s1 ∙ ap (λ z. pre ++ (wa ++ z)) (append_assoc wb wp post) ∙ sym (append_assoc pre wa (wb ++ (wp ++ post))) in
      let s3 : W ≡ ((pre ++ wa) ++ wb) ++ (wp ++ post) = s2 ∙ sym (append_assoc (pre ++ wa) wb (wp ++ post)) in
      let n1 = longer pre wa j (mitigates a) len (length_levels a) in
      let n2 = longer (pre ++ wa) wb (j + mitigates a) (mitigates b) n1 (length_levels b) in
      all_both O (N a i s) (N b i s ++ N p pc _) (all_open d a i s j pre ((wb ++ wp) ++ post) k.4 hi hs num.0 len s1)
      (all_both O (N b i s) (N p pc _) (all_open d b i s (j + mitigates a) (pre ++ wa) (wp ++ post) k.5 hi hs num.1 n1 s2)
      (all_open d p pc _ (j + mitigates a + mitigates b) ((pre ++ wa) ++ wb) post k.6 hp he num.2 n2 s3))
  all_open d (While w e c p) pc t j pre post k hp ht num len is =
      let i = both lat pc (label_form lat free written e) in
      let s = loop_form lat free written t (own_form w.labels (here_form lat free written pc e)) e in
      let hi = inner_base pc e hp in
      let he = end_base d c i s k.3 hi (loop_base w.labels pc t e k.0 hp ht) in
      let wc = written_levels c in
      let wp = written_levels p in
      let s1 : W ≡ pre ++ (wc ++ (wp ++ post)) = is ∙ ap (λ z. pre ++ z) (append_assoc wc wp post) in
      let s2 : W ≡ (pre ++ wc) ++ (wp ++ post) = s1 ∙ sym (append_assoc pre wc (wp ++ post)) in
      let n1 = longer pre wc j (mitigates c) len (length_levels c) in
      all_both O (N c i (E c i s)) (N p pc (E c i s)) (all_open d c i (E c i s) j pre (wp ++ post) k.3 hi he num.0 len s1)
      (all_open d p pc (E c i s) (j + mitigates c) (pre ++ wc) post k.4 hp he num.1 n1 s2)
  all_open d (Mitigate w m l e c p) pc t j pre post k hp ht num len is =
      let s = after_form lat free written t (own_form w.labels (here_form lat free written pc e)) e in
      let hs = after_base w.labels pc t e k.0 hp ht in
      let wc = written_levels c in
      let wp = written_levels p in
      let s1 : W ≡ (pre ++ l ∷ []) ++ (wc ++ (wp ++ post)) =
      is ∙ ap (λ z. pre ++ (l ∷ z)) (append_assoc wc wp post) ∙ sym (append_assoc pre (l ∷ []) (wc ++ (wp ++ post))) in
      let s2 : W ≡ ((pre ++ l ∷ []) ++ wc) ++ (wp ++ post) = s1 ∙ sym (append_assoc (pre ++ l ∷ []) wc (wp ++ post)) in
      let n0 = longer pre (l ∷ []) j 1 len refl in
      let n1 = longer (pre ++ l ∷ []) wc (j + 1) (mitigates c) n0 (length_levels c) in
      all_both O (N c pc s) (level_constraint l m (E c pc s) ++ N p pc s) (all_open d c pc s (j + 1) (pre ++ l ∷ []) (wp ++ post) k.4 hp hs num.1 n0 s1)
      (all_both O (level_constraint l m (E c pc s)) (N p pc s)
      (level_open l m (E c pc s) pre ((wc ++ wp) ++ post) (end_base d c pc s k.4 hp hs) (num.0 ∙ sym len) is)
      (all_open d p pc s (j + 1 + mitigates c) ((pre ++ l ∷ []) ++ wc) post k.5 hp hs num.2 n1 s2))

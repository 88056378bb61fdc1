-- The values of forms, as the least labels above their parts.
use Rattle.std.proofs.Common.{◌≡◌, ℕ, zero, suc, ◌<◌, ◌≤◌, refl, sym, ap, ◌∙◌, subst, arith, ⊎_elim}
use Rattle.std.specs.Prelude.{Bool, true, false, cond, ◌||◌, eqb}
use Rattle.std.proofs.lemmas.Bool.{cases_lt, cond-true, eqb-true, eq-eqb, or_cases, or_left, or_right, both_ways}
use Rattle.label_lattice.specs.Lattice.{Lattice, Flows, IsLattice}
use Rattle.mit_syntax.specs.Expression.{Expression, Number, Variable, Binary, Element}
use Rattle.timing_types.specs.Typing.{label_of, index_label}
use Rattle.timing_types.specs.Walk.{here, put_index}
use Rattle.label_infer.specs.Constraints.{LeftSide, value_from, value, fixed, both, variable_form, label_form, index_form}
use Rattle.label_infer.proofs.Forms.{put_form, here_form}

module _ (lat : Lattice) (ll : IsLattice lat) where
  pub base_up : (g : ℕ → ℕ) (b : ℕ) (has : ℕ → Bool) (n : ℕ) → Flows lat b (value_from lat g b has n)
  base_up g b has zero = ll.same b
  base_up g b has (suc n) = go (has n) (base_up g b has n)
    where
      go : (v : Bool) → Flows lat b (value_from lat g b has n) → Flows lat b (cond v (lat.join (value_from lat g b has n) (g n)) (value_from lat g b has n))
      go true f = ll.chain b (value_from lat g b has n) _ f (ll.left (value_from lat g b has n) (g n))
      go false f = f

  pub has_up : (g : ℕ → ℕ) (b : ℕ) (has : ℕ → Bool) (n x : ℕ) → x < n → has x ≡ true → Flows lat (g x) (value_from lat g b has n)
  has_up g b has zero x h e = absurd (omega (arith, h))
  has_up g b has (suc n) x h e = ⊎_elim
      (λ (i : x < n). go (has n) (has_up g b has n x i e))
      (λ (i : n ≤ x).
      let s : x ≡ n = omega (arith, h, i) in
      let t : has n ≡ true = subst (λ z. has z ≡ true) s e in
      let v = value_from lat g b has n in
      let up : Flows lat (g n) (cond (has n) (lat.join v (g n)) v) =
      subst (λ z. Flows lat (g n) z) (sym (cond-true (has n) (lat.join v (g n)) v t)) (ll.right v (g n)) in
      subst (λ z. Flows lat (g z) (cond (has n) (lat.join v (g n)) v)) (sym s) up)
      (cases_lt x n)
    where
      go : (v : Bool) → Flows lat (g x) (value_from lat g b has n)
          → Flows lat (g x) (cond v (lat.join (value_from lat g b has n) (g n)) (value_from lat g b has n))
      go true f = ll.chain (g x) (value_from lat g b has n) _ f (ll.left (value_from lat g b has n) (g n))
      go false f = f

  pub value_least : (g : ℕ → ℕ) (b : ℕ) (has : ℕ → Bool) (n v : ℕ) → Flows lat b v → ((x : ℕ) → x < n → has x ≡ true → Flows lat (g x) v)
      → Flows lat (value_from lat g b has n) v
  value_least g b has zero v f h = f
  value_least g b has (suc n) v f h = go (value_least g b has n v f (λ x i. h x (omega (arith, i)))) (has n) refl
    where
      go : Flows lat (value_from lat g b has n) v → (c : Bool) → has n ≡ c
          → Flows lat (cond c (lat.join (value_from lat g b has n) (g n)) (value_from lat g b has n)) v
      go rest true e = ll.least (value_from lat g b has n) (g n) v rest (h n (omega arith) e)
      go rest false e = rest

  module _ (n : ℕ) (g : ℕ → ℕ) where
    abbrev val : LeftSide → ℕ
    val = value lat n g

    -- values grow with the labels
    pub value_up : (h : ℕ → ℕ) → ((x : ℕ) → Flows lat (g x) (h x)) → (f : LeftSide) → Flows lat (val f) (value lat n h f)
    value_up h u f =
        value_least g f.base f.has n (value lat n h f) (base_up h f.base f.has n)
        (λ x i e. ll.chain (g x) (h x) (value lat n h f) (u x) (has_up h f.base f.has n x i e))

    pub fixed_value : (a : ℕ) → val (fixed a) ≡ a
    fixed_value a = ll.anti (val (fixed a)) a (value_least g a (λ y. false) n a (ll.same a) (λ x i e. absurd (both_ways false refl e)))
        (base_up g a (λ y. false) n)

    pub both_value : (f h : LeftSide) → val (both lat f h) ≡ lat.join (val f) (val h)
    both_value f h =
        let c = both lat f h in
        let j = lat.join (val f) (val h) in
        let fl = ll.left (val f) (val h) in
        let hr = ll.right (val f) (val h) in
        ll.anti (val c) j
        (value_least g c.base c.has n j
        (ll.least f.base h.base j (ll.chain f.base (val f) j (base_up g f.base f.has n) fl) (ll.chain h.base (val h) j (base_up g h.base h.has n) hr))
        (λ x i e. ⊎_elim
        (λ (k : f.has x ≡ true). ll.chain (g x) (val f) j (has_up g f.base f.has n x i k) fl)
        (λ (k : h.has x ≡ true). ll.chain (g x) (val h) j (has_up g h.base h.has n x i k) hr)
        (or_cases (f.has x) (h.has x) e)))
        (ll.least (val f) (val h) (val c)
        (value_least g f.base f.has n (val c) (ll.chain f.base c.base (val c) (ll.left f.base h.base) (base_up g c.base c.has n))
        (λ x i e. has_up g c.base c.has n x i (or_left (f.has x) (h.has x) e)))
        (value_least g h.base h.has n (val c) (ll.chain h.base c.base (val c) (ll.right f.base h.base) (base_up g c.base c.has n))
        (λ x i e. has_up g c.base c.has n x i (or_right (f.has x) (h.has x) e))))

    one_value : (x : ℕ) → x < n → val (record { base = lat.bottom; has = λ y. false || eqb x y }) ≡ g x
    one_value x h =
        let has : ℕ → Bool = λ y. false || eqb x y in
        ll.anti (value_from lat g lat.bottom has n) (g x)
        (value_least g lat.bottom has n (g x) (ll.lowest (g x))
        (λ y i e. let s : x ≡ y = eqb-true x y e in subst (λ z. Flows lat (g z) (g x)) s (ll.same (g x))))
        (has_up g lat.bottom has n x h (eq-eqb x x refl))

    -- a label, joined with that of one variable
    pub with_one : (b x : ℕ) → x < n → value_from lat g b (λ y. eqb x y) n ≡ lat.join b (g x)
    with_one b x h =
        let has : ℕ → Bool = λ y. eqb x y in
        let v = value_from lat g b has n in
        ll.anti v (lat.join b (g x))
        (value_least g b has n (lat.join b (g x)) (ll.left b (g x))
        (λ y i e. subst (λ z. Flows lat (g z) (lat.join b (g x))) (eqb-true x y e) (ll.right b (g x))))
        (ll.least b (g x) v (base_up g b has n) (has_up g b has n x h (eq-eqb x x refl)))

    pub without_one : (b x : ℕ) → n ≤ x → value_from lat g b (λ y. eqb x y) n ≡ b
    without_one b x h =
        let has : ℕ → Bool = λ y. eqb x y in
        ll.anti (value_from lat g b has n) b
        (value_least g b has n b (ll.same b) (λ y i e. let s = eqb-true x y e in absurd (omega (arith, h, i, s))))
        (base_up g b has n)

    -- two joined forms, by their values
    pub join_value : (f h : LeftSide) (a b : ℕ) → val f ≡ a → val h ≡ b → val (both lat f h) ≡ lat.join a b
    join_value f h a b p q = both_value f h ∙ ap (λ z. lat.join z (val h)) p ∙ ap (lat.join a) q

    module _ (free : ℕ → Bool) (written : ℕ → ℕ) (small : (x : ℕ) → free x ≡ true → x < n) (keeps : (x : ℕ) → free x ≡ false → g x ≡ written x) where
      pub variable_value : (x : ℕ) → val (variable_form lat free written x) ≡ g x
      variable_value x = go (free x) refl
        where
          go : (b : Bool) → free x ≡ b → val (cond b (record { base = lat.bottom; has = λ y. false || eqb x y }) (fixed (written x))) ≡ g x
          go true e = one_value x (small x e)
          go false e = fixed_value (written x) ∙ sym (keeps x e)

      pub label_value : (e : Expression) → val (label_form lat free written e) ≡ label_of lat g e
      label_value (Number k) = fixed_value lat.bottom
      label_value (Variable x) = variable_value x
      label_value (Binary o l r) = join_value (label_form lat free written l) (label_form lat free written r) (label_of lat g l) (label_of lat g r)
          (label_value l) (label_value r)
      label_value (Element f k i) = join_value (variable_form lat free written f) (label_form lat free written i) (g f) (label_of lat g i)
          (variable_value f) (label_value i)

      pub index_value : (e : Expression) → val (index_form lat free written e) ≡ index_label lat g e
      index_value (Number k) = fixed_value lat.bottom
      index_value (Variable x) = fixed_value lat.bottom
      index_value (Binary o l r) = join_value (index_form lat free written l) (index_form lat free written r) (index_label lat g l) (index_label lat g r)
          (index_value l) (index_value r)
      index_value (Element f k i) = label_value i

      pub put_value : (i e : Expression) → val (put_form lat free written i e) ≡ put_index lat g i e
      put_value i e = join_value (label_form lat free written i) (index_form lat free written e) (label_of lat g i) (index_label lat g e)
          (label_value i) (index_value e)

      pub here_value : (pc : LeftSide) (p : ℕ) (e : Expression) → val pc ≡ p → val (here_form lat free written pc e) ≡ here lat g p e
      here_value pc p e q = join_value pc (index_form lat free written e) p (index_label lat g e) q (index_value e)

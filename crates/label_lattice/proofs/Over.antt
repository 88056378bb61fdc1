-- A lattice of n labels is one over all numbers.
use Rattle.std.proofs.Common.{◌≡◌, ℕ, ◌<◌, ◌≤◌, sym, ap, ◌∙◌, subst, ◌⊎◌, inl, inr, ⊎_elim, arith, max}
use Rattle.std.specs.Prelude.{Bool, true, false, leb, ltb, ◌&&◌}
use Rattle.std.proofs.lemmas.Bool.{cases_lt, leb-true, le-leb, lt-ltb, le-ltb, and_from, cond-true, cond-false}
use Rattle.label_lattice.specs.Lattice.{Lattice, Flows, IsLattice, IsTable, over_all}

module _ (n : ℕ) (flows : ℕ → ℕ → Bool) (join : ℕ → ℕ → ℕ) (bottom : ℕ) (table : IsTable n flows join bottom) where
  abbrev lat : Lattice
  lat = over_all n flows join bottom

  both : (a b : ℕ) → ((a < n) × (b < n)) ⊎ ((ltb a n && ltb b n) ≡ false × ((n ≤ a) ⊎ (n ≤ b)))
  both a b = ⊎_elim
      (λ (h : a < n). ⊎_elim
      (λ (k : b < n). inl (h, k))
      (λ (k : n ≤ b). inr (ap (λ z. z && ltb b n) (lt-ltb a n h) ∙ le-ltb b n k, inr k)) (cases_lt b n))
      (λ (h : n ≤ a). inr (ap (λ z. z && ltb b n) (le-ltb a n h), inl h)) (cases_lt a n)

  two : (a b : ℕ) → a < n → b < n → (ltb a n && ltb b n) ≡ true
  two a b h k = and_from (ltb a n) (ltb b n) (lt-ltb a n h) (lt-ltb b n k)

  up : (a b : ℕ) → n ≤ b → a ≤ b → Flows lat a b
  up a b h k = ⊎_elim
      (λ (i : (a < n) × (b < n)). absurd (omega (arith, i.1)))
      (λ (o : (ltb a n && ltb b n) ≡ false × ((n ≤ a) ⊎ (n ≤ b))). cond-false (ltb a n && ltb b n) (flows a b) (leb a b) o.0 ∙ le-leb a b k)
      (both a b)

  inside : (a b : ℕ) → a < n → b < n → flows a b ≡ true → Flows lat a b
  inside a b h k f = cond-true (ltb a n && ltb b n) (flows a b) (leb a b) (two a b h k) ∙ f

  parts : (a b : ℕ) → Flows lat a b → ((a < n) × (b < n) × (flows a b ≡ true)) ⊎ ((n ≤ b) × (a ≤ b))
  parts a b f = ⊎_elim
      (λ (i : (a < n) × (b < n)). inl (i.0, i.1, sym (cond-true (ltb a n && ltb b n) (flows a b) (leb a b) (two a b i.0 i.1)) ∙ f))
      (λ (o : (ltb a n && ltb b n) ≡ false × ((n ≤ a) ⊎ (n ≤ b))).
      let k : a ≤ b = leb-true a b (sym (cond-false (ltb a n && ltb b n) (flows a b) (leb a b) o.0) ∙ f) in
      let l : n ≤ b = ⊎_elim (λ (x : n ≤ a). omega arith) (λ (x : n ≤ b). x) o.1 in
      inr (l, k))
      (both a b)

  joined : (a b : ℕ) → ((a < n) × (b < n) × (lat.join a b ≡ join a b)) ⊎ ((n ≤ max a b) × (lat.join a b ≡ max a b))
  joined a b = ⊎_elim
      (λ (i : (a < n) × (b < n)). inl (i.0, i.1, cond-true (ltb a n && ltb b n) (join a b) (max a b) (two a b i.0 i.1)))
      (λ (o : (ltb a n && ltb b n) ≡ false × ((n ≤ a) ⊎ (n ≤ b))).
      let l : n ≤ max a b = ⊎_elim (λ (x : n ≤ a). omega arith) (λ (x : n ≤ b). omega arith) o.1 in
      inr (l, cond-false (ltb a n && ltb b n) (join a b) (max a b) o.0))
      (both a b)

  In : ℕ → ℕ → Type 0
  In a b = (a < n) × (b < n) × (flows a b ≡ true)

  pub over_all_is : IsLattice lat
  over_all_is =
      record {
        same = λ a. ⊎_elim (λ (h : a < n). inside a a h h (table.same a h)) (λ (h : n ≤ a). up a a h (omega arith)) (cases_lt a n);
        chain = λ a b c f k. ⊎_elim
            (λ (q : (b < n) × (c < n) × (flows b c ≡ true)). ⊎_elim
            (λ (p : (a < n) × (b < n) × (flows a b ≡ true)). inside a c p.0 q.1 (table.chain a b c p.0 q.0 q.1 p.2 q.2))
            (λ (p : (n ≤ b) × (a ≤ b)). absurd (omega (arith, p.0, q.0))) (parts a b f))
            (λ (q : (n ≤ c) × (b ≤ c)). ⊎_elim
            (λ (p : (a < n) × (b < n) × (flows a b ≡ true)). up a c q.0 (omega (arith, p.0, q.0)))
            (λ (p : (n ≤ b) × (a ≤ b)). up a c q.0 (omega (arith, p.1, q.1))) (parts a b f)) (parts b c k);
        anti = λ a b f k. ⊎_elim
            (λ (p : (a < n) × (b < n) × (flows a b ≡ true)). ⊎_elim
            (λ (q : (b < n) × (a < n) × (flows b a ≡ true)). table.anti a b p.0 p.1 p.2 q.2)
            (λ (q : (n ≤ a) × (b ≤ a)). absurd (omega (arith, p.0, q.0))) (parts b a k))
            (λ (p : (n ≤ b) × (a ≤ b)). ⊎_elim
            (λ (q : (b < n) × (a < n) × (flows b a ≡ true)). absurd (omega (arith, p.0, q.0)))
            (λ (q : (n ≤ a) × (b ≤ a)). let e : a ≡ b = omega (arith, p.1, q.1) in e) (parts b a k)) (parts a b f);
        left = λ a b. ⊎_elim
            (λ (p : (a < n) × (b < n) × (lat.join a b ≡ join a b)). subst
            (λ z. Flows lat a z) (sym p.2) (inside a (join a b) p.0 (table.closed a b p.0 p.1) (table.left a b p.0 p.1)))
            (λ (p : (n ≤ max a b) × (lat.join a b ≡ max a b)). subst (λ z. Flows lat a z) (sym p.1) (up a (max a b) p.0 (omega arith))) (joined a b);
        right = λ a b. ⊎_elim
            (λ (p : (a < n) × (b < n) × (lat.join a b ≡ join a b)). subst
            (λ z. Flows lat b z) (sym p.2) (inside b (join a b) p.1 (table.closed a b p.0 p.1) (table.right a b p.0 p.1)))
            (λ (p : (n ≤ max a b) × (lat.join a b ≡ max a b)). subst (λ z. Flows lat b z) (sym p.1) (up b (max a b) p.0 (omega arith))) (joined a b);
        least = λ a b c f k. ⊎_elim
            (λ (p : (a < n) × (b < n) × (lat.join a b ≡ join a b)). ⊎_elim
            (λ (x : (a < n) × (c < n) × (flows a c ≡ true)). ⊎_elim
            (λ (y : (b < n) × (c < n) × (flows b c ≡ true)). subst
            (λ z. Flows lat z c) (sym p.2) (inside (join a b) c (table.closed a b p.0 p.1) x.1 (table.least a b c p.0 p.1 x.1 x.2 y.2)))
            (λ (y : (n ≤ c) × (b ≤ c)). absurd (omega (arith, x.1, y.0))) (parts b c k))
            (λ (x : (n ≤ c) × (a ≤ c)). subst (λ z. Flows lat z c) (sym p.2) (up (join a b) c x.0 (omega (arith, table.closed a b p.0 p.1, x.0))))
            (parts a c f))
            (λ (p : (n ≤ max a b) × (lat.join a b ≡ max a b)). ⊎_elim
            (λ (x : (a < n) × (c < n) × (flows a c ≡ true)). ⊎_elim
            (λ (y : (b < n) × (c < n) × (flows b c ≡ true)). absurd (omega (arith, p.0, x.0, y.0)))
            (λ (y : (n ≤ c) × (b ≤ c)). absurd (omega (arith, x.1, y.0))) (parts b c k))
            (λ (x : (n ≤ c) × (a ≤ c)). ⊎_elim
            (λ (y : (b < n) × (c < n) × (flows b c ≡ true)). absurd (omega (arith, x.0, y.1)))
            (λ (y : (n ≤ c) × (b ≤ c)). subst (λ z. Flows lat z c) (sym p.1) (up (max a b) c x.0 (omega (arith, x.1, y.1)))) (parts b c k)) (parts a c f))
            (joined a b);
        lowest = λ a. ⊎_elim (λ (h : a < n). inside bottom a table.some h (table.lowest a h))
            (λ (h : n ≤ a). up bottom a h (omega (arith, table.some))) (cases_lt a n);
      }

-- The order in which chains from several labels are told.
use Rattle.std.proofs.Common.{◌≡◌, ℕ, zero, suc, ◌+◌, ◌<◌, ◌≤◌, refl, sym, ◌∙◌, subst, List, [], ◌∷◌, length, get_or, arith, ⊎_elim, inl, inr}
use Rattle.std.specs.Prelude.{Contains, AllPairs, ◌⊎◌}
use Rattle.std.specs.List.{insert}
use Rattle.std.proofs.lemmas.Bool.{cases_lt}
use Rattle.std.proofs.lemmas.List.Kept.{AllPairs-cons}
use Rattle.label_lattice.specs.Order.{Order}
use Rattle.mit_syntax.specs.Program.{Syntax}
use Rattle.flow_path.specs.declared.step.Spot.{Spot}
use Rattle.flow_path.specs.declared.cost.Cost.{Cost}
use Rattle.flow_path.specs.declared.origins.Origin.{Origin}
use Rattle.flow_path.specs.Chains.{ComesFrom}
use Rattle.flow_path.specs.Costs.{cost_of, IsLess}
use Rattle.flow_path.specs.Search.{Every}
use Rattle.flow_path.specs.Ranks.{others, IsAhead, IsBefore, IsPlace}
use Rattle.flow_path.specs.Origins.{IsOrigin, AreAll}
use Rattle.flow_path.specs.Collecting.{InOrder, AreBelow}
use Rattle.flow_path.proofs.Costing.{cost_is}
use Rattle.flow_path.proofs.Joins.{every_map, every_all, in_cons, in_more}

-- two pairs of numbers, by the first in which they differ
less_chain : (a m b n c k : ℕ) → (a < b) ⊎ ((a ≡ b) × (m < n)) → (b < c) ⊎ ((b ≡ c) × (n < k)) → (a < c) ⊎ ((a ≡ c) × (m < k))
less_chain a m b n c k h g = ⊎_elim
    (λ (x : a < b). ⊎_elim
    (λ (y : b < c). inl (omega (arith, x, y)))
    (λ (y : (b ≡ c) × (n < k)). let e = y.0 in inl (omega (arith, x, e)))
    g)
    (λ (x : (a ≡ b) × (m < n)).
    let e = x.0 in
    let l = x.1 in
    ⊎_elim
    (λ (y : b < c). inl (omega (arith, e, y)))
    (λ (y : (b ≡ c) × (n < k)).
    let f = y.0 in
    let r = y.1 in
    inr (omega (arith, e, f), omega (arith, l, r)))
    g)
    h

less_both : (a m b n : ℕ) → (a < b) ⊎ ((a ≡ b) × (m < n)) → (b < a) ⊎ ((b ≡ a) × (n < m)) → ⊥
less_both a m b n h g = ⊎_elim
    (λ (x : a < b). ⊎_elim
    (λ (y : b < a). omega (arith, x, y))
    (λ (y : (b ≡ a) × (n < m)). let e = y.0 in omega (arith, x, e))
    g)
    (λ (x : (a ≡ b) × (m < n)).
    let e = x.0 in
    let l = x.1 in
    ⊎_elim
    (λ (y : b < a). omega (arith, e, y))
    (λ (y : (b ≡ a) × (n < m)). let r = y.1 in omega (arith, l, r))
    g)
    h

less_cases : (a m b n : ℕ) → ((a < b) ⊎ ((a ≡ b) × (m < n))) ⊎ (((b < a) ⊎ ((b ≡ a) × (n < m))) ⊎ ((a ≡ b) × (m ≡ n)))
less_cases a m b n = ⊎_elim
    (λ (x : a < b). inl (inl x))
    (λ (x : b ≤ a). ⊎_elim
    (λ (y : b < a). inr (inl (inl y)))
    (λ (y : a ≤ b).
    let e : a ≡ b = omega (arith, x, y) in
    ⊎_elim
    (λ (l : m < n). inl (inr (e, l)))
    (λ (l : n ≤ m). ⊎_elim
    (λ (r : n < m). inr (inl (inr (sym e, r))))
    (λ (r : m ≤ n). inr (inr (e, omega (arith, l, r))))
    (cases_lt n m))
    (cases_lt m n))
    (cases_lt b a))
    (cases_lt a b)

module _ (o : Order) where
  abbrev cost : Origin → Cost
  cost w = cost_of w.chain.items

  ahead_chain : (u v w : Origin) → IsAhead o u v → IsAhead o v w → IsAhead o u w
  ahead_chain u v w h k = less_chain (others o u) u.label.number (others o v) v.label.number (others o w) w.label.number h k

  ahead_both : (v w : Origin) → IsAhead o v w → IsAhead o w v → ⊥
  ahead_both v w h k = less_both (others o v) v.label.number (others o w) w.label.number h k

  ahead_either : (v w : Origin) → (v.label.number ≡ w.label.number → ⊥) → IsAhead o v w ⊎ IsAhead o w v
  ahead_either v w n = ⊎_elim
      (λ (h : IsAhead o v w). inl h)
      (λ (h : IsAhead o w v ⊎ ((others o v ≡ others o w) × (v.label.number ≡ w.label.number))). ⊎_elim
      (λ (k : IsAhead o w v). inr k)
      (λ (k : (others o v ≡ others o w) × (v.label.number ≡ w.label.number)). absurd (n k.1))
      h)
      (less_cases (others o v) v.label.number (others o w) w.label.number)

  cost_chain : (a b c : Cost) → IsLess a b → IsLess b c → IsLess a c
  cost_chain a b c h k = less_chain a.faint a.steps b.faint b.steps c.faint c.steps h k

  cost_both : (a b : Cost) → IsLess a b → IsLess b a → ⊥
  cost_both a b h k = less_both a.faint a.steps b.faint b.steps h k

  cost_cases : (a b : Cost) → IsLess a b ⊎ (IsLess b a ⊎ (a ≡ b))
  cost_cases a b = ⊎_elim
      (λ (h : IsLess a b). inl h)
      (λ (h : IsLess b a ⊎ ((a.faint ≡ b.faint) × (a.steps ≡ b.steps))). inr (⊎_elim
      (λ (k : IsLess b a). inl k)
      (λ (k : (a.faint ≡ b.faint) × (a.steps ≡ b.steps)). inr (cost_is a b k.0 k.1))
      h))
      (less_cases a.faint a.steps b.faint b.steps)

  same_less : (a b : Cost) → a ≡ b → IsLess a b → ⊥
  same_less a b e h = cost_both b b (subst (λ z. IsLess z b) e h) (subst (λ z. IsLess z b) e h)

  pub before_chain : (u v w : Origin) → IsBefore o u v → IsBefore o v w → IsBefore o u w
  before_chain u v w h k = ⊎_elim
      (λ (x : IsLess (cost u) (cost v)). ⊎_elim
      (λ (y : IsLess (cost v) (cost w)). inl (cost_chain (cost u) (cost v) (cost w) x y))
      (λ (y : (cost v ≡ cost w) × IsAhead o v w). inl (subst (λ z. IsLess (cost u) z) y.0 x))
      k)
      (λ (x : (cost u ≡ cost v) × IsAhead o u v). ⊎_elim
      (λ (y : IsLess (cost v) (cost w)). inl (subst (λ z. IsLess z (cost w)) (sym x.0) y))
      (λ (y : (cost v ≡ cost w) × IsAhead o v w). inr (x.0 ∙ y.0, ahead_chain u v w x.1 y.1))
      k)
      h

  pub before_both : (v w : Origin) → IsBefore o v w → IsBefore o w v → ⊥
  before_both v w h k = ⊎_elim
      (λ (x : IsLess (cost v) (cost w)). ⊎_elim
      (λ (y : IsLess (cost w) (cost v)). cost_both (cost v) (cost w) x y)
      (λ (y : (cost w ≡ cost v) × IsAhead o w v). same_less (cost v) (cost w) (sym y.0) x)
      k)
      (λ (x : (cost v ≡ cost w) × IsAhead o v w). ⊎_elim
      (λ (y : IsLess (cost w) (cost v)). same_less (cost w) (cost v) (sym x.0) y)
      (λ (y : (cost w ≡ cost v) × IsAhead o w v). ahead_both v w x.1 y.1)
      k)
      h

  -- of two from different labels one is before the other
  pub before_other : (v w : Origin) → (v.label.number ≡ w.label.number → ⊥) → (IsBefore o v w → ⊥) → IsBefore o w v
  before_other v w n h = ⊎_elim
      (λ (x : IsLess (cost v) (cost w)). absurd (h (inl x)))
      (λ (x : IsLess (cost w) (cost v) ⊎ (cost v ≡ cost w)). ⊎_elim
      (λ (y : IsLess (cost w) (cost v)). inl y)
      (λ (y : cost v ≡ cost w). ⊎_elim
      (λ (z : IsAhead o v w). absurd (h (inr (y, z))))
      (λ (z : IsAhead o w v). inr (sym y, z))
      (ahead_either v w n))
      x)
      (cost_cases (cost v) (cost w))

  every_put : (P : Origin → Type 0) (x : Origin) (ws : List Origin) (i : ℕ) → P x → Every P ws → Every P (insert ws i x)
  every_put P x [] zero p h = (p, tt)
  every_put P x [] (suc i) p h = (p, tt)
  every_put P x (w ∷ ws) zero p h = (p, h)
  every_put P x (w ∷ ws) (suc i) p h = (h.0, every_put P x ws i p h.1)

  put : (x : Origin) (ws : List Origin) (i : ℕ) → InOrder o ws → IsPlace o x ws i → Every (λ (w : Origin). x.label.number ≡ w.label.number → ⊥) ws
      → InOrder o (insert ws i x)
  put x [] zero h p n = (tt, tt)
  put x [] (suc i) h p n = (tt, tt)
  put x (w ∷ ws) zero h p n = ((p, every_map (IsBefore o w) (IsBefore o x) (λ v q. before_chain x w v p q) ws h.0), h)
  put x (w ∷ ws) (suc i) h p n = (every_put (IsBefore o w) x ws i (before_other x w n.0 p.0) h.0, put x ws i h.1 p.1 n.1)

  pub put_there : (x : Origin) (ws : List Origin) (i : ℕ) → Contains (insert ws i x) x
  put_there x [] zero = (0, omega arith, refl)
  put_there x [] (suc i) = (0, omega arith, refl)
  put_there x (w ∷ ws) zero = (0, omega arith, refl)
  put_there x (w ∷ ws) (suc i) = in_more w (insert ws i x) x (put_there x ws i)

  pub put_still : (x : Origin) (ws : List Origin) (i : ℕ) (v : Origin) → Contains ws v → Contains (insert ws i x) v
  put_still x [] i v c = let l = c.1 in absurd (omega (arith, l))
  put_still x (w ∷ ws) zero v c = in_more x (w ∷ ws) v c
  put_still x (w ∷ ws) (suc i) v c = ⊎_elim
      (λ (e : w ≡ v). (0, omega arith, e))
      (λ (e : Contains ws v). in_more w (insert ws i x) v (put_still x ws i v e))
      (in_cons w ws v c)

  in_pairs : (ws : List Origin) → InOrder o ws → AllPairs (IsBefore o) ws
  in_pairs [] h = λ i j d lt within. absurd (omega (arith, within))
  in_pairs (w ∷ ws) h = AllPairs-cons (IsBefore o) w ws (every_all (IsBefore o w) ws h.0) (in_pairs ws h.1)

  pairs_first : (w : Origin) (vs : List Origin) → ((k : ℕ) (d : Origin) → k < length vs → IsBefore o w (get_or vs k d)) → Every (IsBefore o w) vs
  pairs_first w [] f = tt
  pairs_first w (v ∷ vs) f = (f 0 v (omega arith), pairs_first w vs (λ k d l. f (suc k) d (omega (arith, l))))

  pub from_pairs : (ws : List Origin) → AllPairs (IsBefore o) ws → InOrder o ws
  from_pairs [] h = tt
  from_pairs (w ∷ ws) h = (
    pairs_first w ws (λ k d l. h 0 (suc k) d (omega arith) (omega (arith, l))),
    from_pairs ws (λ i j d lt within. h (suc i) (suc j) d (omega (arith, lt)) (omega (arith, within))),
  )

module _ (s : Syntax) (p : Spot) where
  pub below_begins : AreBelow s p 0 []
  below_begins = record { each = tt; order = tt; below = tt; all = λ a l c. absurd (omega (arith, l)) }

  longer : (n : ℕ) (ws : List Origin) → Every (λ (w : Origin). w.label.number < n) ws → Every (λ (w : Origin). w.label.number < n + 1) ws
  longer n ws h = every_map (λ (w : Origin). w.label.number < n) (λ (w : Origin). w.label.number < n + 1) (λ w l. omega (arith, l)) ws h

  -- no chain leads from the next label
  pub below_skips : (n : ℕ) (ws : List Origin) → (ComesFrom s p n → ⊥) → AreBelow s p n ws → AreBelow s p (n + 1) ws
  below_skips n ws h B = record {
    each = B.each;
    order = B.order;
    below = longer n ws B.below;
    all = λ a l c. ⊎_elim
        (λ (x : a < n). B.all a x c)
        (λ (x : n ≤ a). let e : a ≡ n = omega (arith, l, x) in absurd (h (subst (λ z. ComesFrom s p z) e c)))
        (cases_lt a n);
  }

  -- one does
  pub below_more : (n : ℕ) (ws : List Origin) (w : Origin) (i : ℕ) → w.label.number ≡ n → IsOrigin s p w → IsPlace s.order w ws i → AreBelow s p n ws
      → AreBelow s p (n + 1) (insert ws i w)
  below_more n ws w i e o at B = record {
    each = every_put s.order (IsOrigin s p) w ws i o B.each;
    order = put s.order w ws i B.order at
        (every_map (λ (v : Origin). v.label.number < n) (λ (v : Origin). w.label.number ≡ v.label.number → ⊥)
        (λ v l f. omega (arith, l, e, f)) ws B.below);
    below = every_put s.order (λ (v : Origin). v.label.number < n + 1) w ws i (omega (arith, e)) (longer n ws B.below);
    all = λ a l c. ⊎_elim
        (λ (x : a < n). let q = B.all a x c in (q.0, put_still s.order w ws i q.0 q.1, q.2))
        (λ (x : n ≤ a). let f : n ≡ a = omega (arith, l, x) in (w, put_there s.order w ws i, e ∙ f))
        (cases_lt a n);
  }

  pub below_ends : (n : ℕ) (ws : List Origin) → ((a : ℕ) → ComesFrom s p a → a < n) → AreBelow s p n ws → AreAll s p ws
  below_ends n ws h B = record {
    each = every_all (IsOrigin s p) ws B.each;
    order = in_pairs s.order ws B.order;
    all = λ a c. B.all a (h a c) c;
  }

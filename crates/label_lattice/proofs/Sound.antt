-- Labels of which nothing is wrong are a lattice, and what is wrong of one relation is wrong of its equal.
use Rattle.std.proofs.Common.{◌≡◌, ℕ, zero, suc, ◌<◌, ◌≤◌, sym, subst, ◌⊎◌, ⊎_elim, arith}
use Rattle.std.proofs.lemmas.Bool.{cases_order, cases_eq}
use Rattle.label_lattice.specs.Chains.{IsCycle, IsLowest, AreLowest, IsJoin, HaveNoJoin, IsNoPair, IsFirstPair}

-- what holds of one relation holds of another that is the same below n
module _ (n : ℕ) (F G : ℕ → ℕ → Type 0) (to : (a b : ℕ) → a < n → b < n → F a b → G a b) (from : (a b : ℕ) → a < n → b < n → G a b → F a b) where
  pub cycle : (a b : ℕ) → a < n → b < n → IsCycle F a b → IsCycle G a b
  cycle a b h k c = (to a b h k c.0, to b a k h c.1)

  pub lowest : (a : ℕ) → a < n → IsLowest n F a → IsLowest n G a
  lowest a h l c k g = l c k (from c a k h g)

  pub both_lowest : (a b : ℕ) → a < n → b < n → AreLowest n F a b → AreLowest n G a b
  both_lowest a b h k l = (lowest a h l.0, lowest b k l.1)

  pub join : (a b c : ℕ) → a < n → b < n → c < n → IsJoin n F a b c → IsJoin n G a b c
  join a b c h k l j =
      record {
        left = to a c h l j.left;
        right = to b c k l j.right;
        least = λ d m p q. to c d l m (j.least d m (from a d h m p) (from b d k m q));
      }

module _ (n : ℕ) (P Q : ℕ → ℕ → Type 0) (to : (a b : ℕ) → a < n → b < n → P a b → Q a b) (from : (a b : ℕ) → a < n → b < n → Q a b → P a b) where
  pub no_pair : IsNoPair n P → IsNoPair n Q
  no_pair h a b l k q = h a b l k (from a b (omega (arith, l, k)) k q)

  pub first_pair : (a b : ℕ) → IsFirstPair n P a b → IsFirstPair n Q a b
  first_pair a b f =
      record {
        ordered = f.ordered;
        within = f.within;
        holds = to a b (omega (arith, f.ordered, f.within)) f.within f.holds;
        first = λ c d l k q. f.first c d l k (from c d (omega (arith, l, k)) k q);
      }

module _ (n : ℕ) (R : ℕ → ℕ → Type 0) (same : (a : ℕ) → a < n → R a a) (chain : (a b c : ℕ) → a < n → b < n → c < n → R a b → R b c → R a c) (known : (a b : ℕ)
    → a < n → b < n → R a b ⊎ (R a b → ⊥)) (no_cycle : IsNoPair n (IsCycle R)) (one_lowest : IsNoPair n (AreLowest n R))
    (joined : IsNoPair n (HaveNoJoin n R)) where
  pub anti : (a b : ℕ) → a < n → b < n → R a b → R b a → a ≡ b
  anti a b h k p q = ⊎_elim
      (λ (e : a ≡ b). e)
      (λ (o : (a < b) ⊎ (b < a)). ⊎_elim (λ (l : a < b). absurd (no_cycle a b l k (p, q))) (λ (l : b < a). absurd (no_cycle b a l h (q, p))) o)
      (cases_order a b)

  abbrev pub LowestBelow : ℕ → ℕ → ℕ → Type 0
  LowestBelow k a m = (m < n) × R m a × ((c : ℕ) → c < k → R c m → c ≡ m)

  -- below each label there is one to which no other of the first k flows
  low_below : (k : ℕ) → k ≤ n → (a : ℕ) → a < n → (m : ℕ) × LowestBelow k a m
  low_below zero h a l = (a, (l, same a l, λ c i r. absurd (omega (arith, i))))
  low_below (suc k) h a l = low_more k (omega (arith, h)) a l (low_below k (omega (arith, h)) a l)
    where
      low_more : (k : ℕ) → k < n → (a : ℕ) → a < n → ((m : ℕ) × LowestBelow k a m) → (m : ℕ) × LowestBelow (suc k) a m
      low_more k h a l (m, f) = ⊎_elim
          (λ (r : R k m). (
            k,
            (
              h,
              chain k m a h f.0 l r f.1,
              λ c i q. ⊎_elim
                  (λ (e : c ≡ k). e)
                  (λ (ne : c ≡ k → ⊥).
                  let j : c < k = omega (arith, i, ne) in
                  let e : c ≡ m = f.2 c j (chain c k m (omega (arith, j, h)) h f.0 q r) in
                  anti c k (omega (arith, j, h)) h q (subst (λ (z : ℕ). R k z) (sym e) r)) (cases_eq c k),
            ),
          ))
          (λ (no : R k m → ⊥). (
            m,
            (
              f.0,
              f.1,
              λ c i q. ⊎_elim
                  (λ (e : c ≡ k). absurd (no (subst (λ (z : ℕ). R z m) e q)))
                  (λ (ne : c ≡ k → ⊥). f.2 c (omega (arith, i, ne)) q) (cases_eq c k),
            ),
          ))
          (known k m h f.0)

  pub some_lowest : 0 < n → (m : ℕ) × ((m < n) × IsLowest n R m)
  some_lowest h = let f = low_below n (omega arith) 0 h in (f.0, (f.1.0, f.1.2))

  same_lowest : (a b : ℕ) → a < n → b < n → IsLowest n R a → IsLowest n R b → a ≡ b
  same_lowest a b h k p q = ⊎_elim
      (λ (e : a ≡ b). e)
      (λ (o : (a < b) ⊎ (b < a)). ⊎_elim (λ (l : a < b). absurd (one_lowest a b l k (p, q))) (λ (l : b < a). absurd (one_lowest b a l h (q, p))) o)
      (cases_order a b)

  -- the lowest label flows to all
  pub lowest_flows : (m : ℕ) → m < n → IsLowest n R m → (a : ℕ) → a < n → R m a
  lowest_flows m h p a k =
      let f = low_below n (omega arith) a k in
      subst (λ (z : ℕ). R z a) (same_lowest f.0 m f.1.0 h f.1.2 p) f.1.1

  -- each two labels have a join
  pub have_join : (a b : ℕ) → a < n → b < n → HaveNoJoin n R a b → ⊥
  have_join a b h k f = ⊎_elim
      (λ (e : a ≡ b). f a h (record { left = same a h; right = subst (λ (z : ℕ). R z a) e (same a h); least = λ d m p q. p }))
      (λ (o : (a < b) ⊎ (b < a)). ⊎_elim
      (λ (l : a < b). joined a b l k f)
      (λ (l : b < a). joined b a l h (λ c m j. f c m (record { left = j.right; right = j.left; least = λ d i p q. j.least d i q p }))) o)
      (cases_order a b)

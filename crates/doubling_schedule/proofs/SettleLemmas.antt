-- The least count whose prediction is above the elapsed time: it exists, there is one only, and
-- counting up finds it.
use Rattle.std.proofs.Common.{◌≡◌, ◌<◌, ◌≤◌, ◌+◌, ◌*◌, ◌^◌, ℕ, zero, suc, max, sym, ap, subst, ◌∙◌, arith, cond, inl, inr, ℤ, List, slice_index, slice_set}
use Rattle.std.proofs.Common.{replicate}
use Rattle.std.proofs.lemmas.Bool.{le-leb, lt-leb, cases_lt}
use Rattle.std.proofs.Math.Pow.{pow_mono}
use Rattle.std.proofs.Math.Nat.{pow-suc}
use Rattle.doubling_schedule.specs.Doubling.{at_least_zero, prediction, Settles, settled, misses_after}

-- each count from the old one on and below this one has a prediction that the elapsed time reached
pub record Missed (estimate : ℤ) (elapsed old count : ℕ) : Type 0 where
  pub from : old ≤ count
  pub each : (k : ℕ) → old ≤ k → k < count → prediction estimate k ≤ elapsed

times_one : (a b : ℕ) → 1 ≤ a → b ≤ a * b
times_one a b h = grind arith

-- a prediction is at least its power of 2, and above its count
pub above_power : (estimate : ℤ) (k : ℕ) → 2 ^ k ≤ prediction estimate k
above_power n k = times_one (max (at_least_zero n) 1) (2 ^ k) (omega arith)

pub below_power : (k : ℕ) → k < 2 ^ k
below_power zero = omega arith
below_power (suc k) = let h = below_power k in let e = pow-suc k 2 in omega (arith, h, e)

pub above_count : (estimate : ℤ) (k : ℕ) → k < prediction estimate k
above_count n k = let a = above_power n k in let b = below_power k in omega (arith, a, b)

-- a count to which all predictions were reached, and that is itself enough
pub Missed-settles : (estimate : ℤ) (elapsed old count : ℕ) → Missed estimate elapsed old count → elapsed < prediction estimate count
    → Settles estimate elapsed old count
Missed-settles n e m c s a =
    record {
      from = s.from;
      above = a;
      least = λ k g h. elim (cases_lt k c) [
        | inl l ↦ let r = s.each k g l in omega (arith, r, h)
        | inr l ↦ omega (arith, l)
      ];
    }

-- a first count that is not enough is passed over
step_settles : (estimate : ℤ) (elapsed m c : ℕ) → prediction estimate m ≤ elapsed → Settles estimate elapsed (suc m) c → Settles estimate elapsed m c
step_settles n e m c p s =
    let from = s.from in
    record {
      from = omega (arith, from);
      above = s.above;
      least = λ k g h. elim (cases_lt m k) [
        | inl l ↦ s.least k (omega (arith, l)) h
        | inr l ↦
            let same : k ≡ m = omega (arith, l, g) in
            let above : e < prediction n m = subst (λ z. e < prediction n z) same h in
            omega (arith, p, above)
      ];
    }

settled_settles : (fuel : ℕ) (estimate : ℤ) (elapsed m : ℕ) → elapsed < fuel + m → Settles estimate elapsed m (settled fuel estimate elapsed m)
settled_settles zero n e m h =
    let a = above_count n m in
    record { from = omega arith; above = omega (arith, a, h); least = λ k g _. g }
settled_settles (suc fuel) n e m h =
    elim (cases_lt e (prediction n m)) [
      | inl l ↦
          let is : settled (suc fuel) n e m ≡ m = ap (λ b. cond b (settled fuel n e (suc m)) m) (lt-leb _ _ l) in
          subst (Settles n e m) (sym is) (record { from = omega arith; above = l; least = λ k g _. g })
      | inr g ↦
          let is : settled (suc fuel) n e m ≡ settled fuel n e (suc m) = ap (λ b. cond b (settled fuel n e (suc m)) m) (le-leb _ _ g) in
          subst (Settles n e m) (sym is) (step_settles n e m (settled fuel n e (suc m)) g (settled_settles fuel n e (suc m) (omega (arith, h))))
    ]

-- the count that is computed is the one that settles
pub misses_after-settles : (estimate : ℤ) (elapsed old : ℕ) → Settles estimate elapsed old (misses_after estimate elapsed old)
misses_after-settles n e m = settled_settles (e + 1) n e m (omega arith)

-- and there is no other
pub Settles-unique : (estimate : ℤ) (elapsed old a b : ℕ) → Settles estimate elapsed old a → Settles estimate elapsed old b → a ≡ b
Settles-unique n e m a b s t =
    let p = s.least b t.from t.above in
    let q = t.least a s.from s.above in
    omega (arith, p, q)

product_bound : (a b c d : ℕ) → a ≤ c → b ≤ d → a * b ≤ c * d
product_bound a b c d p q = grind arith

pub small_prediction : (a k p : ℕ) → a ≤ 2 ^ 63 → k ≤ 64 → p ≡ 2 ^ k → a * p ≤ 2 ^ 127
small_prediction a k p h l e =
    let m : 2 ^ k ≤ 2 ^ 64 = pow_mono l in
    let q : p ≤ 2 ^ 64 = omega (arith, e, m) in
    product_bound a p (2 ^ 63) (2 ^ 64) h q

-- the same for a count in a table
pub count_is : (ms ms' : List ℕ) (i l : ℕ) (n n' : ℤ) (elapsed count : ℕ) → ms ≡ ms' → i ≡ l → n ≡ n' → Missed n elapsed (slice_index ms i) count
    → elapsed < prediction n' count →
    count ≡ misses_after n' elapsed (slice_index ms' l)
count_is ms ms' i l n n' e c p q r s a =
    let missed : Missed n' e (slice_index ms i) c = subst (λ z. Missed z e (slice_index ms i) c) r s in
    let settles = Missed-settles n' e (slice_index ms i) c missed a in
    Settles-unique n' e (slice_index ms i) c (misses_after n' e (slice_index ms i)) settles (misses_after-settles n' e (slice_index ms i))
    ∙ (ap (λ z. misses_after n' e (slice_index ms z)) q ∙ ap (λ z. misses_after n' e (slice_index z l)) p)

pub table_is : (ms ms' : List ℕ) (i l count m : ℕ) → ms ≡ ms' → i ≡ l → count ≡ m → slice_set ms i count ≡ slice_set ms' l m
table_is ms ms' i l c m p q r = ap (slice_set ms i) r ∙ (ap (λ z. slice_set ms z m) q ∙ ap (λ z. slice_set z l m) p)

-- a new table's counts are all few
pub slice_index-replicate : (n l : ℕ) → slice_index (replicate n 0) l ≤ 64
slice_index-replicate zero l = omega arith
slice_index-replicate (suc n) zero = omega arith
slice_index-replicate (suc n) (suc l) = slice_index-replicate n l

-- Numbers below the sharp count tell records apart, and the sharp count is at most a power.
use Rattle.std.proofs.Common.{◌≡◌, ℕ, zero, suc, ◌+◌, ◌*◌, ◌^◌, ◌<◌, ◌≤◌, List, length, ◌⊎◌, refl, sym, ap, ◌∙◌, subst, arith}
use Rattle.std.specs.Prelude.{Bool, true, false, cond}
use Rattle.std.proofs.lemmas.Nat.{pow-add, mul-le}
use Rattle.std.proofs.Math.Nat.{pow-zero, pow-le-pow_left}
use Rattle.label_lattice.specs.Lattice.{Lattice}
use Rattle.label_lattice.specs.Order.{count_not_below}
use Rattle.leak_bound.specs.Records.{Entry, Fits, NeverFalls}
use Rattle.leak_bound.specs.Rising.{rising, sharp}
use Rattle.leak_bound.proofs.Choose.{rising-power, rising-none, rising-le}
use Rattle.leak_bound.proofs.Counting.{picked, is_at, AtMost, Under, LevelsUnder, rank_under, number, number_below, number_same, same_ranks}

-- a record of counts that never fall for each level, each at most what ds tells for its level, with levels below n, at
-- most ks l of level l
pub record IsCounted (n : ℕ) (ds ks : ℕ → ℕ) (r : List Entry) : Type 0 where
  pub up : AtMost ds r
  pub rises : NeverFalls r
  pub levels : LevelsUnder n r
  pub short : (l : ℕ) → picked (is_at l) r ≤ ks l

-- its number is below the sharp count
pub counted_below : (n : ℕ) (ds ks : ℕ → ℕ) (r : List Entry) → IsCounted n ds ks r → number ds ks n r < sharp (λ l. suc (ds l)) n ks
counted_below n ds ks r c = number_below ds ks n r c.up c.rises c.short

-- and tells it apart from others whose entries have its levels: of the same length, or of entries that are all below ds
pub counted_same : (n : ℕ) (ds ks : ℕ → ℕ) (r r' : List Entry) → Fits r r' → (length r ≡ length r') ⊎ (Under ds r × Under ds r') → IsCounted n ds ks r
    → IsCounted n ds ks r' → number ds ks n r ≡ number ds ks n r' → r ≡ r'
counted_same n ds ks r r' fits ends c c' e =
    same_ranks n ds ks r r' fits ends c.up c'.up c.rises c'.rises c.levels c'.levels c.short c'.short
    (number_same ds ks n r r' (λ l. rank_under ds l (ks l) r c.up c.rises (c.short l)) (λ l. rank_under ds l (ks l) r' c'.up c'.rises (c'.short l)) e)

-- Where no level has more than c + 1 values and no more than k mitigations, and a level that flows to the observer has none,
-- the sharp count is at most a power.
pub sharp_within : (lat : Lattice) (o c k n : ℕ) (values counts : ℕ → ℕ) → ((l : ℕ) → values l ≤ suc c) → ((l : ℕ) → counts l ≤ k)
    → ((l : ℕ) → lat.flows l o ≡ true → counts l ≡ 0) → sharp values n counts ≤ (k + 1) ^ (count_not_below lat o n * c)
sharp_within lat o c k zero values counts few h low =
    let e : 0 ≡ 0 * c = omega arith in
    subst (λ z. 1 ≤ (k + 1) ^ z) e (omega (arith, pow-zero (k + 1)))
sharp_within lat o c k (suc n) values counts few h low = go (lat.flows n o) refl (sharp_within lat o c k n values counts few h low)
  where
    go : (b : Bool) → lat.flows n o ≡ b → sharp values n counts ≤ (k + 1) ^ (count_not_below lat o n * c)
        → rising (values n) (counts n) * sharp values n counts ≤ (k + 1) ^ ((count_not_below lat o n + cond b 0 1) * c)
    go true e ih =
        let m = count_not_below lat o n in
        let one : rising (values n) (counts n) ≡ 1 = ap (λ z. rising (values n) z) (low n e) ∙ rising-none (values n) in
        let times = ap (λ z. z * sharp values n counts) one in
        let same : m * c ≡ (m + 0) * c = omega arith in
        subst (λ z. rising (values n) (counts n) * sharp values n counts ≤ (k + 1) ^ z) same (omega (arith, ih, times))
    go false e ih =
        let m = count_not_below lat o n in
        let up : counts n + 1 ≤ k + 1 = omega (arith, h n) in
        let one : rising (values n) (counts n) ≤ (k + 1) ^ c =
        omega (arith, rising-le (values n) (suc c) (counts n) (few n), rising-power c (counts n), pow-le-pow_left up c) in
        let same : c + m * c ≡ (m + 1) * c = omega arith in
        subst (λ z. rising (values n) (counts n) * sharp values n counts ≤ (k + 1) ^ z) same
        (subst (λ z. rising (values n) (counts n) * sharp values n counts ≤ z) (sym (pow-add (k + 1) c (m * c)))
        (mul-le (rising (values n) (counts n)) (sharp values n counts) ((k + 1) ^ c) ((k + 1) ^ (m * c)) one ih))

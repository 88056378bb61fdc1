-- The number of binary digits is the least with its property.
use Rattle.std.proofs.Common.{◌≡◌, ℕ, zero, suc, ◌+◌, ◌-◌, ◌^◌, ◌<◌, ◌≤◌, refl, ap, ◌∙◌, subst, ⊎_elim, arith}
use Rattle.std.specs.Prelude.{Bool, true, false, cond, ltb}
use Rattle.std.proofs.lemmas.Bool.{ltb-true, ltb-false, cases_lt}
use Rattle.std.proofs.Math.Nat.{pow-zero, one-le-pow, pow-le-pow_right}
use Rattle.std.proofs.Math.Pow.{pow_mono}
use Rattle.doubling_schedule.proofs.SettleLemmas.{below_power}
use Rattle.leak_bound.specs.Digits.{digits_from, digits, HasDigits}

digits_enough : (fuel n t : ℕ) → t < 2 ^ (n + fuel) → t < 2 ^ digits_from fuel n t
digits_enough zero n t h = let e : n + 0 ≡ n = omega arith in subst (λ z. t < 2 ^ z) e h
digits_enough (suc fuel) n t h = go (ltb t (2 ^ n)) refl (digits_enough fuel (suc n) t (subst (λ z. t < 2 ^ z) more h))
  where
    more : n + suc fuel ≡ suc n + fuel
    more = omega arith

    go : (b : Bool) → ltb t (2 ^ n) ≡ b → t < 2 ^ digits_from fuel (suc n) t → t < 2 ^ cond b n (digits_from fuel (suc n) t)
    go true e r = ltb-true t (2 ^ n) e
    go false e r = r

digits_least : (fuel n t d : ℕ) → n ≤ suc d → 2 ^ d ≤ t → t < 2 ^ suc d → t < 2 ^ (n + fuel) → digits_from fuel n t ≡ suc d
digits_least zero n t d le low high far =
    let here : n + 0 ≡ n = omega arith in
    let enough : t < 2 ^ n = subst (λ z. t < 2 ^ z) here far in
    ⊎_elim
    (λ (lt : n < suc d). let two : 0 < 2 = omega arith in let up : n ≤ d = omega arith in absurd (omega (arith, pow-le-pow_right two up, low, enough)))
    (λ (ge : suc d ≤ n). omega arith)
    (cases_lt n (suc d))
digits_least (suc fuel) n t d le low high far = go (ltb t (2 ^ n)) refl (λ l f. digits_least fuel (suc n) t d l low high f)
  where
    more : n + suc fuel ≡ suc n + fuel
    more = omega arith

    go : (b : Bool) → ltb t (2 ^ n) ≡ b → (suc n ≤ suc d → t < 2 ^ (suc n + fuel) → digits_from fuel (suc n) t ≡ suc d)
        → cond b n (digits_from fuel (suc n) t) ≡ suc d
    go true e next =
        ⊎_elim
        (λ (lt : n < suc d). let two : 0 < 2 = omega arith in let up : n ≤ d = omega arith in
        absurd (omega (arith, pow-le-pow_right two up, low, ltb-true t (2 ^ n) e)))
        (λ (ge : suc d ≤ n). omega arith)
        (cases_lt n (suc d))
    go false e next =
        ⊎_elim
        (λ (lt : n < suc d). next (omega arith) (subst (λ z. t < 2 ^ z) more far))
        (λ (ge : suc d ≤ n).
        let same : suc d ≡ n = omega arith in
        absurd (omega (arith, ltb-false t (2 ^ n) e, subst (λ z. t < 2 ^ z) same high)))
        (cases_lt n (suc d))

-- a number of d + 1 binary digits has d + 1 binary digits
pub digits_of : (t d : ℕ) → HasDigits t d → digits t ≡ suc d
digits_of t d h =
    let e : t ≡ 0 + t = omega arith in
    digits_least t 0 t d (omega arith) h.from h.below (subst (λ z. t < 2 ^ z) e (below_power t))

digits_over : (fuel n t : ℕ) → 0 < n → 2 ^ (n - 1) ≤ t → 2 ^ (digits_from fuel n t - 1) ≤ t
digits_over zero n t h low = low
digits_over (suc fuel) n t h low = go (ltb t (2 ^ n)) refl (λ l. digits_over fuel (suc n) t (omega arith) l)
  where
    go : (b : Bool) → ltb t (2 ^ n) ≡ b → (2 ^ (suc n - 1) ≤ t → 2 ^ (digits_from fuel (suc n) t - 1) ≤ t) → 2 ^ (cond b n (digits_from fuel (suc n) t) - 1) ≤ t
    go true e next = low
    go false e next =
        let back : n ≡ suc n - 1 = omega arith in
        next (subst (λ z. 2 ^ z ≤ t) back (omega (arith, ltb-false t (2 ^ n) e)))

-- it is one more than some number, and has that property
pub digits_is : (t : ℕ) → 0 < t → (d : ℕ) × (digits t ≡ suc d) × (t < 2 ^ suc d) × (2 ^ d ≤ t)
digits_is t h = go (digits t) refl
  where
    enough : t < 2 ^ digits t
    enough = let e : t ≡ 0 + t = omega arith in digits_enough t 0 t (subst (λ z. t < 2 ^ z) e (below_power t))

    over : (fuel : ℕ) → fuel ≡ t → 2 ^ (digits_from fuel 0 t - 1) ≤ t
    over zero e = absurd (omega arith)
    over (suc fuel) e =
        first (ltb t (2 ^ 0)) refl
      where
        first : (b : Bool) → ltb t (2 ^ 0) ≡ b → 2 ^ (cond b 0 (digits_from fuel 1 t) - 1) ≤ t
        first true q = absurd (omega (arith, ltb-true t (2 ^ 0) q, pow-zero 2))
        first false q = digits_over fuel 1 t (omega arith) (omega (arith, pow-zero 2))

    go : (n : ℕ) → digits t ≡ n → (d : ℕ) × (digits t ≡ suc d) × (t < 2 ^ suc d) × (2 ^ d ≤ t)
    go zero e = let small = subst (λ z. t < 2 ^ z) e enough in absurd (omega (arith, small, pow-zero 2))
    go (suc d) e =
        let back : suc d - 1 ≡ d = omega arith in
        (d, e, subst (λ z. t < 2 ^ z) e enough, subst (λ z. 2 ^ z ≤ t) (ap (λ z. z - 1) e ∙ back) (over t refl))

pub has_digits : (t : ℕ) → 0 < t → (d : ℕ) × (digits t ≡ suc d) × HasDigits t d
has_digits t h = let r = digits_is t h in (r.0, r.1, record { from = r.3; below = r.2 })

-- a number with as great a power of two has more binary digits
pub power_digits : (m c : ℕ) → 2 ^ m ≤ c → m < digits c
power_digits m zero h = absurd (omega (arith, h, one-le-pow m 2 (omega arith)))
power_digits m (suc c) h =
    let d = digits_is (suc c) (omega arith) in
    ⊎_elim
    (λ (lt : d.0 < m). let up : suc d.0 ≤ m = omega arith in let more : 2 ^ suc d.0 ≤ 2 ^ m = pow_mono up in absurd (omega (arith, more, h, d.2)))
    (λ (le : m ≤ d.0). omega (arith, d.1))
    (cases_lt d.0 m)

-- How the number of lists that never fall grows with a value and with an entry, in one factor.
use Rattle.std.proofs.Common.{◌≡◌, ℕ, zero, suc, ◌+◌, ◌-◌, ◌*◌, ◌/◌, ◌%◌, ◌<◌, ◌≤◌, ap, ◌∙◌, sym, subst, ⊎_elim, arith}
use Rattle.std.proofs.Math.Nat.{mul-le-mul_right}
use Rattle.std.proofs.lemmas.Bool.{cases_lt}
use Rattle.std.proofs.lemmas.Nat.{div-add-mod', div-mul-add}
use Rattle.leak_bound.specs.Rising.{rising}
use Rattle.leak_bound.proofs.Choose.{pascal, rising-none, rising-one}

-- one value more, and one entry more
record Grows (c k : ℕ) : Type 0 where
  value : rising (suc (suc c)) k * suc c ≡ rising (suc c) k * suc (k + c)
  entry : rising (suc c) (suc k) * suc k ≡ rising (suc c) k * suc (k + c)

no_entry : (c : ℕ) → rising (suc (suc c)) 0 * suc c ≡ rising (suc c) 0 * suc (0 + c)
no_entry c =
    let a = ap (λ z. z * suc c) (rising-none (suc (suc c))) in
    let b = ap (λ z. z * suc c) (rising-none (suc c)) in
    omega (arith, a, b)

one_value : (k : ℕ) → rising 1 (suc k) * suc k ≡ rising 1 k * suc (k + 0)
one_value k =
    let a = ap (λ z. z * suc k) (rising-one (suc k)) in
    let b = ap (λ z. z * suc k) (rising-one k) in
    omega (arith, a, b)

more_entries : (c k : ℕ) → Grows c k → rising (suc (suc c)) (suc k) * suc c ≡ rising (suc c) (suc k) * suc (suc k + c)
more_entries c k h =
    let a = ap (λ z. z * suc c) (pascal (suc c) k) in
    omega (arith, a, h.value, h.entry)

more_values : (c k : ℕ) → Grows c k → rising (suc (suc c)) (suc k) * suc k ≡ rising (suc (suc c)) k * suc (k + suc c)
more_values c k h =
    let a = ap (λ z. z * suc k) (pascal (suc c) k) in
    omega (arith, a, h.value, h.entry)

grows : (n c k : ℕ) → c + k ≤ n → Grows c k
grows n zero zero le = record { value = no_entry 0; entry = one_value 0 }
grows zero (suc c) k le = absurd (omega arith)
grows zero zero (suc k) le = absurd (omega arith)
grows (suc n) (suc c) zero le = record { value = no_entry (suc c); entry = more_values c 0 (grows n c 0 (omega arith)) }
grows (suc n) zero (suc k) le = record { value = more_entries 0 k (grows n 0 k (omega arith)); entry = one_value (suc k) }
grows (suc n) (suc c) (suc k) le =
    record { value = more_entries (suc c) k (grows n (suc c) k (omega arith)); entry = more_values c (suc k) (grows n c (suc k) (omega arith)) }

one_more_value : (c k : ℕ) → 0 < c → rising (c + 1) k * c ≡ rising c k * (k + c)
one_more_value zero k h = absurd (omega arith)
one_more_value (suc c) k h =
    let e : suc c + 1 ≡ suc (suc c) = omega arith in
    let s : suc (k + c) ≡ k + suc c = omega arith in
    subst (λ z. rising z k * suc c ≡ rising (suc c) k * (k + suc c)) (sym e)
    (subst (λ z. rising (suc (suc c)) k * suc c ≡ rising (suc c) k * z) s (grows (c + k) c k (omega arith)).value)

-- the greater of two multiples is of the greater number
less_by : (c q r x : ℕ) → 0 < c → r * c ≡ q * c + x → q ≤ r
less_by c q r x some e =
    ⊎_elim
    (λ (lt : r < q). let up : suc r ≤ q = omega arith in absurd (omega (arith, mul-le-mul_right c up, e, some)))
    (λ (le : q ≤ r). le)
    (cases_lt r q)

-- a product that a number divides, divided in two parts
parts : (a c s r : ℕ) → 0 < c → r * c ≡ a * s → (a / c) * s + (a % c) * s / c ≡ r
parts a c s r some e =
    let q = a / c in
    let m = a % c in
    let whole : q * c + m ≡ a = div-add-mod' a c in
    let spread : r * c ≡ q * s * c + m * s = e ∙ ap (λ z. z * s) (sym whole) ∙ omega arith in
    let less : q * s ≤ r = less_by c (q * s) r (m * s) some spread in
    let rest : r ≡ q * s + (r - q * s) = omega (arith, less) in
    let again : r * c ≡ q * s * c + (r - q * s) * c = ap (λ z. z * c) rest ∙ omega arith in
    let left : m * s ≡ (r - q * s) * c + 0 = omega (arith, spread, again) in
    let there : m * s / c ≡ r - q * s = ap (λ z. z / c) left ∙ div-mul-add (r - q * s) c 0 some in
    omega (arith, there, rest)

pub with_one_more : (c k : ℕ) → 0 < c → (rising c k / c) * (k + c) + (rising c k % c) * (k + c) / c ≡ rising (c + 1) k
with_one_more c k some = parts (rising c k) c (k + c) (rising (c + 1) k) some (one_more_value c k some)

-- Numbers below 2 ^ 128, and those that are not.
use Rattle.std.proofs.Common.{◌≡◌, ℕ, zero, suc, ◌*◌, ◌^◌, ◌<◌, ◌≤◌, refl, ap, ◌∙◌, sym, ⊎_elim, arith}
use Rattle.std.specs.Prelude.{cond, Option, Some, None, SomeIff}
use Rattle.std.proofs.lemmas.Bool.{lt-ltb, le-ltb, cases_lt}
use Rattle.sharp_count.specs.Count.{fitting}

pub fits : (n : ℕ) → n < 2 ^ 128 → fitting n ≡ Some n
fits n h = ap (λ b. cond b (Some n) None) (lt-ltb n (2 ^ 128) h)

pub over : (n : ℕ) → 2 ^ 128 ≤ n → fitting n ≡ None
over n h = ap (λ b. cond b (Some n) None) (le-ltb n (2 ^ 128) h)

-- what fits is the number, and below 2 ^ 128
pub told : (n m : ℕ) → Some m ≡ fitting n → m ≡ n × (n < 2 ^ 128)
told n m e =
    ⊎_elim
    (λ (lt : n < 2 ^ 128). let q : Some m ≡ Some n = e ∙ fits n lt in (cc, lt))
    (λ (le : 2 ^ 128 ≤ n). let q : Some m ≡ None = e ∙ over n le in absurd (cc))
    (cases_lt n (2 ^ 128))

pub untold : (n : ℕ) → None ≡ fitting n → 2 ^ 128 ≤ n
untold n e =
    ⊎_elim
    (λ (lt : n < 2 ^ 128). let q : None ≡ Some n = e ∙ fits n lt in absurd (cc))
    (λ (le : 2 ^ 128 ≤ n). le)
    (cases_lt n (2 ^ 128))

-- what an operation answers that tells its result where this fits
pub checked : (r : Option ℕ) (n : ℕ) → SomeIff r (n < 2 ^ 128) n → r ≡ fitting n
checked None n h = ⊎_elim (λ (lt : n < 2 ^ 128). absurd (h lt)) (λ (le : 2 ^ 128 ≤ n). sym (over n le)) (cases_lt n (2 ^ 128))
checked (Some x) n h = ap (λ z. Some z) h.1 ∙ sym (fits n h.0)

-- a greater number does not fit either
pub over_more : (n m : ℕ) → n ≤ m → (n < 2 ^ 128 → ⊥) → None ≡ fitting m
over_more n m le h = ⊎_elim (λ (lt : n < 2 ^ 128). absurd (h lt)) (λ (ge : 2 ^ 128 ≤ n). sym (over m (omega arith))) (cases_lt n (2 ^ 128))

-- what is too large is too large times a number other than 0
pub times_over : (m n : ℕ) → 2 ^ 128 ≤ m → (n ≡ 0 → ⊥) → None ≡ fitting (m * n)
times_over m zero le ne = absurd (ne refl)
times_over m (suc n) le ne = sym (over (m * suc n) (omega arith))

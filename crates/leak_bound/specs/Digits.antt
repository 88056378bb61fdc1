-- Binary digits.
use Rattle.std.specs.Prelude.{ℕ, zero, suc, ◌^◌, ◌≤◌, ◌<◌, ltb, cond}

-- the number of binary digits: the least n with t below 2 ^ n, which is at most t
abbrev pub digits_from : ℕ → ℕ → ℕ → ℕ
digits_from zero n t = n
digits_from (suc fuel) n t = cond (ltb t (2 ^ n)) n (digits_from fuel (suc n) t)

abbrev pub digits : ℕ → ℕ
digits t = digits_from t 0 t

-- a number of d + 1 binary digits
pub record HasDigits (t d : ℕ) : Type 0 where
  pub from : 2 ^ d ≤ t
  pub below : t < 2 ^ suc d

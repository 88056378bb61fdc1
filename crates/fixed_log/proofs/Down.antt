-- Squares that are rounded down.
use Rattle.std.proofs.Common.{◌≡◌, ◌<◌, ◌≤◌, ◌+◌, ◌-◌, ◌*◌, ◌/◌, ◌^◌, ℕ, suc, List, [], ◌∷◌, ◌++◌, Bool, true, false, cond, sym, ap, subst, ◌∙◌, arith, refl}
use Rattle.std.specs.Prelude.{nat_lt}
use Rattle.std.proofs.lemmas.Bool.{lt-ltb, ltb-true}
use Rattle.fixed_log.specs.declared.log.Floating.{Floating}
use Rattle.fixed_log.specs.Entropy.{starts}
use Rattle.fixed_log.specs.Units.{floating, squared_down, squares_down, log_units, log_units_of, entropy_units}

pub small_down : (f : Floating) (x : ℕ) → x ≡ f.mantissa * f.mantissa → x < 2 ^ 125
    → ◌≡◌ {A = Floating} (record { mantissa = x / 2 ^ 62; exponent = 2 * f.exponent }) (squared_down f)
small_down f x is lt =
    let small : f.mantissa * f.mantissa < 2 ^ 125 = subst (λ z. z < 2 ^ 125) is lt in
    ap (λ z. let r : Floating = record { mantissa = z / 2 ^ 62; exponent = 2 * f.exponent } in r) is
    ∙ sym (ap (λ b. let r : Floating = cond b (record { mantissa = f.mantissa * f.mantissa / 2 ^ 62; exponent = 2 * f.exponent })
    (record { mantissa = f.mantissa * f.mantissa / 2 ^ 63; exponent = 2 * f.exponent + 1 }) in r) (lt-ltb (f.mantissa * f.mantissa) (2 ^ 125) small))

not_less : (a b : ℕ) → b ≤ a → nat_lt a b ≡ false
not_less a b le = go (nat_lt a b) refl
  where
    go : (t : Bool) → nat_lt a b ≡ t → nat_lt a b ≡ false
    go true e = let lt = ltb-true a b e in absurd (omega (arith, lt, le))
    go false e = e

pub large_down : (f : Floating) (x : ℕ) → x ≡ f.mantissa * f.mantissa → 2 ^ 125 ≤ x
    → ◌≡◌ {A = Floating} (record { mantissa = x / 2 ^ 63; exponent = 2 * f.exponent + 1 }) (squared_down f)
large_down f x is le =
    let large : 2 ^ 125 ≤ f.mantissa * f.mantissa = subst (λ z. 2 ^ 125 ≤ z) is le in
    ap (λ z. let r : Floating = record { mantissa = z / 2 ^ 63; exponent = 2 * f.exponent + 1 } in r) is
    ∙ sym (ap (λ b. let r : Floating = cond b (record { mantissa = f.mantissa * f.mantissa / 2 ^ 62; exponent = 2 * f.exponent })
    (record { mantissa = f.mantissa * f.mantissa / 2 ^ 63; exponent = 2 * f.exponent + 1 }) in r) (not_less (f.mantissa * f.mantissa) (2 ^ 125) large))

pub squares_none : (f : Floating) → squares_down 0 f ≡ f
unfolding squares_down
squares_none f = refl

squares_step : (k : ℕ) (f : Floating) → squares_down (suc k) f ≡ squared_down (squares_down k f)
unfolding squares_down
squares_step k f = refl

pub squares_next : (k : ℕ) (f : Floating) → squares_down (k + 1) f ≡ squared_down (squares_down k f)
squares_next k f = let one : k + 1 ≡ suc k = omega arith in ap (λ z. squares_down z f) one ∙ squares_step k f

pub logs_more : (xs : List ℕ) (n : ℕ) → log_units_of (xs ++ n ∷ []) ≡ log_units_of xs + n * log_units n
logs_more [] n = sum_zero (n * log_units n)
  where
    sum_zero : (m : ℕ) → m + 0 ≡ 0 + m
    sum_zero m = omega arith
logs_more (x ∷ xs) n = ap (λ z. x * log_units x + z) (logs_more xs n) ∙ joined (x * log_units x) (log_units_of xs) (n * log_units n)
  where
    joined : (a b c : ℕ) → a + (b + c) ≡ a + b + c
    joined a b c = omega arith

pub entropy_told : (xs : List ℕ) (s e f v : ℕ) → s ≡ starts xs → e ≡ log_units s → f ≡ log_units_of xs → v ≡ (s * e - f) / s → v ≡ entropy_units xs
entropy_told xs s e f v p q r h =
    h ∙ ap (λ z. (s * z - f) / s) q ∙ ap (λ z. (s * log_units s - z) / s) r ∙ ap (λ z. (z * log_units z - log_units_of xs) / z) p

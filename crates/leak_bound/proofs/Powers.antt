-- Powers that reach a number.
use Rattle.std.proofs.Common.{◌≡◌, ℕ, zero, suc, ◌*◌, ◌^◌, ◌<◌, ◌≤◌, sym, ap, ◌∙◌, arith}
use Rattle.std.proofs.Math.Nat.{pow-zero, pow-succ', pow-le-pow_right, mul_comm}

pub one_power : (n : ℕ) → 1 ^ n ≡ 1
one_power zero = pow-zero 1
one_power (suc n) = pow-succ' 1 n ∙ omega (arith, one_power n)

-- a number that one more factor reaches is within the whole power
pub reached : (count base exponent i p : ℕ) → 0 < base → i < exponent → p ≡ base ^ i → count ≤ p * base → count ≤ base ^ exponent
reached count base exponent i p some lt e h =
    let next : base ^ suc i ≡ p * base = pow-succ' base i ∙ mul_comm base (base ^ i) ∙ ap (λ z. z * base) (sym e) in
    let up : suc i ≤ exponent = omega arith in
    omega (arith, h, next, pow-le-pow_right some up)

-- The number of binary digits is small, and tells how many things differ.
use Rattle.std.proofs.Common.{ℕ, zero, suc, ◌^◌, ◌<◌, ◌≤◌, ⊎_elim, arith}
use Rattle.std.proofs.lemmas.Bool.{cases_lt}
use Rattle.std.proofs.Math.Pow.{pow_mono}
use Rattle.leak_bound.specs.Digits.{digits}
use Rattle.leak_bound.proofs.Digits.{digits_is}

pub digits_few : (t k : ℕ) → t < 2 ^ k → digits t ≤ k
digits_few zero k h = omega arith
digits_few (suc t) k h =
    let d = digits_is (suc t) (omega arith) in
    ⊎_elim
    (λ (lt : d.0 < k). omega (arith, d.1))
    (λ (le : k ≤ d.0). let up : 2 ^ k ≤ 2 ^ d.0 = pow_mono le in absurd (omega (arith, up, h, d.3)))
    (cases_lt d.0 k)

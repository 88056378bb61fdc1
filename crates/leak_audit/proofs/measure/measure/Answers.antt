use Rattle.std.proofs.Common.{◌<◌, ◌≤◌, ◌*◌, ◌^◌, ℕ, arith}
use Rattle.label_lattice.specs.Order.{most_labels}
use Rattle.std.proofs.Common.{⊎_elim}
use Rattle.std.proofs.lemmas.Bool.{cases_lt}
use Rattle.std.proofs.Math.Nat.{pow-le-pow_right, mul-le-mul}
use Rattle.leak_bound.specs.Digits.{digits}
use Rattle.leak_bound.proofs.Digits.{digits_is}
use Rattle.leak_audit.proofs.measure.measure.Goals as goal

-- a number of at most 2 ^ 40 has at most 41 binary digits
few_digits : (t : ℕ) → 0 < t → t ≤ 2 ^ 40 → digits t ≤ 41
few_digits t some small =
    let d = digits_is t some in
    ⊎_elim
    (λ (lt : 40 < d.0). let up : 41 ≤ d.0 = omega arith in let two : 0 < 2 = omega arith in
    absurd (omega (arith, pow-le-pow_right {n = 2} two {i = 41} {j = d.0} up, d.3)))
    (λ (le : d.0 ≤ 40). omega (arith, d.1))
    (cases_lt 40 d.0)

product : (a b : ℕ) → a ≤ most_labels → b ≤ 41 → a * b ≤ most_labels * 41
product a b h k = let x : a * b ≤ most_labels * 41 = mul-le-mul h k in omega (arith, x)

pub overflow_mul-result : goal.overflow_mul-result
overflow_mul-result c =
    let levels : c.not_below-levels.result ≤ most_labels = omega (arith, c.not_below-levels.ensures.within, c.laws.ensures.order.within) in
    let count : c.digits.result ≤ 41 = omega (arith, c.digits.ensures, few_digits c.args.limit c.requires.some c.requires.limit) in
    omega (arith, product c.not_below-levels.result c.digits.result levels count)

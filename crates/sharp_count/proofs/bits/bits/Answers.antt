use Rattle.std.proofs.Common.{◌≡◌, ℕ, suc, ◌≤◌, ◌^◌, ◌+◌, ◌-◌, ◌<◌, subst, ⊎_elim, arith}
use Rattle.std.proofs.lemmas.Bool.{cases_lt}
use Rattle.std.proofs.lemmas.Nat.{leading_top}
use Rattle.std.proofs.Math.Pow.{pow_mono}
use Rattle.sharp_count.proofs.bits.bits.Goals as goal

sum_back : (a b n : ℕ) → a + b ≡ n → b ≡ n - a
sum_back a b n e = omega (arith, e)

pub returns-clause-enough : goal.returns-clause-enough
returns-clause-enough c =
    let fits : c.args.count < 2 ^ 128 = c.ranges.count.fits in
    let top = leading_top 128 (c.args.count - 1) (omega (arith, c.if-count-le1.false)) (omega (arith, fits)) in
    let e = top.1 in
    let high = top.3 in
    subst (λ z. c.args.count ≤ 2 ^ z) (sum_back _ (suc top.0) 128 e) (omega (arith, high))

pub returns-clause-least : goal.returns-clause-least
returns-clause-least c n le =
    let fits : c.args.count < 2 ^ 128 = c.ranges.count.fits in
    let top = leading_top 128 (c.args.count - 1) (omega (arith, c.if-count-le1.false)) (omega (arith, fits)) in
    let e = top.1 in
    let low = top.2 in
    ⊎_elim
    (λ (lt : top.0 < n). omega (arith, e, lt))
    (λ (ge : n ≤ top.0). let up : 2 ^ n ≤ 2 ^ top.0 = pow_mono ge in absurd (omega (arith, up, low, le, c.if-count-le1.false)))
    (cases_lt top.0 n)

use Rattle.std.proofs.Common.{◌≡◌, ◌*◌, ◌≤◌, ◌<◌, ◌^◌, ap, ⊎_elim, arith, refl}
use Rattle.std.proofs.Math.Nat.{one-le-pow}
use Rattle.std.proofs.lemmas.Bool.{cases_lt}
use Rattle.leak_bound.proofs.Powers.{one_power, reached}
use Rattle.leak_bound.proofs.count.within.Goals as goal

pub returns-then-count-le1 : goal.returns-then-count-le1
returns-then-count-le1 c = (λ t. omega (arith, one-le-pow c.args.exponent c.args.base c.requires, c.if-count-le1.true), λ le. refl)

pub returns-then-base-eq1 : goal.returns-then-base-eq1
returns-then-base-eq1 c = (
  λ f. absurd (cc),
  λ le.
      let one : c.args.base ^ c.args.exponent ≡ 1 ^ c.args.exponent = ap (λ b. b ^ c.args.exponent) c.if-base-eq1.true in
      absurd (omega (arith, le, one, one_power c.args.exponent, c.if-count-le1.false)),
)

pub returns-in_default : goal.returns-in_default
returns-in_default c =
    let fits : c.args.count < 18446744073709551616 = c.ranges.count.fits in (
      λ t. ⊎_elim
          (λ (lt : c.loop.power * c.args.base < 18446744073709551616). absurd (c.in_default.ensures lt))
          (λ (ge : 18446744073709551616 ≤ c.loop.power * c.args.base).
          let enough : c.args.count ≤ c.loop.power * c.args.base = omega (arith, fits, ge) in
          reached c.args.count c.args.base c.args.exponent c.loop.counter c.loop.power c.requires c.loop-test.true c.loop.invariant.0 enough)
          (cases_lt (c.loop.power * c.args.base) 18446744073709551616),
      λ le. refl,
    )

pub returns-then-next-count : goal.returns-then-next-count
returns-then-next-count c =
    let next = c.in-Some.ensures.1 in
    let enough : c.args.count ≤ c.loop.power * c.args.base = omega (arith, next, c.if-next-count.true) in
    (λ t. reached c.args.count c.args.base c.args.exponent c.loop.counter c.loop.power c.requires c.loop-test.true c.loop.invariant.0 enough, λ le. refl)

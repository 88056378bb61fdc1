use Rattle.std.proofs.Common.{◌≡◌, ◌+◌, ◌-◌, ℕ, suc, get_or, replicate, Option, Some, None, refl, ap, ◌∙◌, subst, arith}
use Rattle.std.proofs.Math.ListN.{length-set}
use Rattle.std.proofs.lemmas.List.{get_or-replicate}
use Rattle.sharp_count.specs.Count.{fitting}
use Rattle.own_firsts.specs.Count.{lists_below}
use Rattle.own_firsts.proofs.Rows.{FromPlace, last_place, more_place}
use Rattle.own_firsts.proofs.count.with_one_before.Goals as goal

pub loop-miss_count-init : goal.loop-miss_count-init
loop-miss_count-init c = (
  refl,
  λ limits i k is rows. last_place limits c.args.values i k (replicate 65 (Some 0))
      (get_or-replicate 65 c.args.values (Some 0) None (omega (arith, c.requires))),
)

pub loop-miss_count-preserved : goal.loop-miss_count-preserved
loop-miss_count-preserved c =
    let m = c.loop-miss_count.miss_count - 1 in
    let some = c.loop-miss_count-test.true in
    let most = c.loop-miss_count.auto.miss_count in
    let long = c.loop-miss_count.invariant.0 in
    let back : c.loop-miss_count.miss_count ≡ suc m = omega (arith, some) in (
      omega (arith, length-set {A = Option ℕ}, long),
      λ limits i k is rows.
          more_place limits c.args.values i k m c.args.limit c.args.row.now c.loop-miss_count.next c.following.result c.plus.result is
          (omega (arith, some, most, back)) (omega (arith, some, most, long, c.requires, back)) rows
          (subst (λ z. FromPlace limits c.args.values i k z c.loop-miss_count.next) back (c.loop-miss_count.invariant.1 limits i k is rows))
          c.following.ensures
          (λ a b p q. let next : m + 1 ≡ suc m = omega arith in c.plus.ensures a b p (ap (λ z. get_or c.loop-miss_count.next z None) next ∙ q)),
    )

pub returns : goal.returns
returns c = record {
  long = c.loop-miss_count.invariant.0;
  row = λ limits i k is rows m le.
      let end : c.loop-miss_count.miss_count ≡ 0 = omega (arith, c.loop-miss_count-test.false) in
      let made = (c.loop-miss_count.invariant.1 limits i k is rows).made m (omega (arith, end)) le in
      let more : suc k ≡ k + 1 = omega arith in
      made ∙ ap (λ z. fitting (lists_below limits m (c.args.values - m) i z)) more;
}

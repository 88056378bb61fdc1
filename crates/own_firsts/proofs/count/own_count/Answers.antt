use Rattle.std.proofs.Common.{◌≡◌, ◌+◌, ◌-◌, ℕ, List, length, replicate, Option, Some, None, refl, sym, subst, arith}
use Rattle.std.specs.Prelude.{slice_index_or}
use Rattle.std.proofs.lemmas.List.{get_or-replicate}
use Rattle.sharp_count.specs.Levels.{miss_counts}
use Rattle.own_firsts.specs.Rows.{IsRow}
use Rattle.own_firsts.proofs.Rows.{row_of_none}
use Rattle.own_firsts.proofs.count.own_count.Goals as goal

pub loop-place-init : goal.loop-place-init
loop-place-init c =
    let firsts = c.args.firsts.now in
    let limits : ℕ → ℕ = λ i. miss_counts c.args.t (slice_index_or firsts i 0) in
    let d = c.miss_counts-values.result in
    let row : List (Option ℕ) = replicate 65 (Some 1) in
    let few = c.miss_counts-values.ensures.few in
    let none : 0 ≡ length firsts - length firsts = omega arith in (
      refl,
      subst (λ k. IsRow limits d (length firsts) k row) none
          (row_of_none limits d (length firsts) row (λ m le. get_or-replicate 65 m (Some 1) None (omega (arith, few, le)))),
    )

pub loop-place-preserved : goal.loop-place-preserved
loop-place-preserved c =
    let firsts = c.args.firsts.now in
    let limits : ℕ → ℕ = λ i. miss_counts c.args.t (slice_index_or firsts i 0) in
    let d = c.miss_counts-values.result in
    let p = c.loop-place.place - 1 in
    let some = c.loop-place-test.true in
    let most = c.loop-place.auto.place in
    let back : c.loop-place.place ≡ p + 1 = omega (arith, some) in
    let longer : (length firsts - c.loop-place.place) + 1 ≡ length firsts - p = omega (arith, some, most, back) in
    let rows = subst (λ z. IsRow limits d z (length firsts - c.loop-place.place) c.loop-place.row) back c.loop-place.invariant.1 in (
      c.with_one_before-row.ensures.long,
      subst (λ k. IsRow limits d p k c.with_one_before-row.result) longer
          (c.with_one_before-row.ensures.row limits p (length firsts - c.loop-place.place) (sym c.miss_counts.ensures.exact) rows),
    )

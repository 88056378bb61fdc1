use Rattle.std.proofs.Common.{◌/◌, ◌^◌, ◌<◌, ◌≤◌, Some, sym, ap, ◌∙◌, arith}
use Rattle.std.proofs.Math.Nat.{div-le_self}
use Rattle.std.proofs.lemmas.Bool.{le-leb, lt-leb}
use Rattle.std.specs.Prelude.{cond, max}
use Rattle.leak_bound.specs.Rising.{rising}
use Rattle.sharp_count.specs.Count.{fitting}
use Rattle.sharp_count.specs.Levels.{miss_counts}
use Rattle.sharp_count.specs.Shares.{shares}
use Rattle.sharp_count.proofs.Binary.{digits_few}
use Rattle.sharp_count.proofs.Fitting.{fits}
use Rattle.sharp_count.proofs.Shares.{ways_of_level, shares_fit}
use Rattle.sharp_count.proofs.Ways.{ways, are_ways}
use Rattle.sharp_count.proofs.shared_product.factor.Goals as goal

-- all lists that never fall, of more than 64 mitigations
pub returns-then-level-gt-MAX_SHARED : goal.returns-then-level-gt-MAX_SHARED
returns-then-level-gt-MAX_SHARED c =
    let t = c.args.t in
    let e = c.args.level.first in
    let k = c.args.level.mitigations in
    c.never_falling.ensures ∙ ap (λ z. fitting (rising z k)) c.miss_counts.ensures.exact
    ∙ ap (λ b. fitting (cond b (shares (miss_counts t e) k (t / max e 1) 0) (rising (miss_counts t e) k))) (sym (lt-leb k 64 c.if-level-gt-MAX_SHARED.true))

pub returns : goal.returns
returns c =
    let t = c.args.t in
    let e = c.args.level.first in
    let k = c.args.level.mitigations in
    let few : k ≤ 64 = c.if-level-gt-MAX_SHARED.false in
    let all = ways t (λ l. e) 1 (λ l. k) in
    let are = are_ways t (λ l. e) 1 (λ l. k) in
    let small : t / max e 1 ≤ t = div-le_self t (max e 1) in
    let below : t < 2 ^ 64 = c.ranges.t.fits in
    let digits : miss_counts t e ≤ 64 = digits_few (t / max e 1) 64 (omega (arith, small, below)) in
    c.in_ok-count.ensures.exact few all are
    ∙ ap (λ z. Some z) (sym (ways_of_level t e k all are))
    ∙ sym (fits (shares (miss_counts t e) k (t / max e 1) 0) (shares_fit (miss_counts t e) k (t / max e 1) 0 digits few))
    ∙ ap (λ b. fitting (cond b (shares (miss_counts t e) k (t / max e 1) 0) (rising (miss_counts t e) k))) (sym (le-leb k 64 few))

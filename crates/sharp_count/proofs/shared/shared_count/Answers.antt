use Rattle.std.proofs.Common.{length, refl, ◌<◌, ◌≡◌, ◌+◌, ◌-◌, ◌/◌, ◌^◌, ◌≤◌, [], get_or, Some, sym, ap, ◌∙◌, subst, arith}
use Rattle.std.proofs.lemmas.List.{with_items_is}
use Rattle.std.proofs.lemmas.Option.{slice_get_read, get_or_from_slice_get}
use Rattle.std.proofs.Math.Nat.{pow-zero, div-one}
use Rattle.leak_bound.specs.Digits.{digits}
use Rattle.leak_bound.specs.Rising.{rising}
use Rattle.sharp_count.specs.Shares.{shares, IsTable}
use Rattle.std.specs.Prelude.{max}
use Rattle.sharp_count.proofs.Shares.{shares_few, ways_of_level, ways_of_one}
use Rattle.sharp_count.proofs.Table.{none_at_end, again_halved, some_left}
use Rattle.sharp_count.proofs.shared.shared_count.Goals as goal

pub loop-place-init : goal.loop-place-init
loop-place-init c =
    let n = c.args.t / c.max.result in
    let many : c.miss_counts-place.result ≡ digits n = c.miss_counts-place.ensures.exact ∙ ap (λ z. digits (c.args.t / z)) (sym c.max.ensures) in
    let none : n / 2 ^ c.miss_counts-place.result ≡ 0 = ap (λ z. n / 2 ^ z) many ∙ none_at_end n in
    (c.in_ok-table.ensures.rows, subst (λ z. IsTable z c.in_ok-table.table.items) (sym none) c.in_ok-table.ensures.table)

pub double-requires : goal.double-requires
double-requires c =
    let n = c.args.t / c.max.result in
    let p = c.loop-place.place - 1 in
    let many : c.miss_counts-place.result ≡ digits n = c.miss_counts-place.ensures.exact ∙ ap (λ z. digits (c.args.t / z)) (sym c.max.ensures) in
    let back : c.loop-place.place ≡ p + 1 = omega arith in
    let half : n / 2 ^ c.loop-place.place ≡ n / 2 ^ p / 2 = ap (λ z. n / 2 ^ z) back ∙ again_halved n p in
    record {
      left = some_left n p (omega (arith, many, c.loop-place.auto.place));
      rows = ap length c.deref_mut.ensures.value ∙ c.loop-place.invariant.0;
      halved = subst (λ z. IsTable (n / 2 ^ p / 2) z) (sym c.deref_mut.ensures.value)
          (subst (λ z. IsTable z c.loop-place.table.items) half c.loop-place.invariant.1);
    }

pub loop-place-preserved : goal.loop-place-preserved
loop-place-preserved c =
    let made = c.double.new.table in
    let value = ap length c.deref_mut.ensures.value in
    let fit : length made ≡ c.loop-place.table.len = omega (arith, c.double.ensures.rows, value, c.deref_mut.ensures.len, c.loop-place.invariant.0) in
    let is = with_items_is c.loop-place.table made fit in (
      ap length is ∙ c.double.ensures.rows,
      subst (λ z. IsTable (c.args.t / c.max.result / 2 ^ (c.loop-place.place - 1)) z) (sym is) c.double.ensures.table,
    )

pub returns : goal.returns
returns c =
    let n = c.args.t / max c.args.first 1 in
    let end : c.loop-place.place ≡ 0 = omega arith in
    let whole : c.args.t / c.max.result / 2 ^ c.loop-place.place ≡ n =
    ap (λ z. c.args.t / c.max.result / 2 ^ z) end ∙ ap (λ z. c.args.t / c.max.result / z) (pow-zero 2) ∙ div-one (c.args.t / c.max.result)
    ∙ ap (λ z. c.args.t / z) c.max.ensures in
    let table : IsTable n c.loop-place.table.items = subst (λ z. IsTable z c.loop-place.table.items) whole c.loop-place.invariant.1 in
    let few : c.args.mitigations ≤ 64 = c.if-mitigations-gt-MAX_SHARED.false in
    let cell : get_or (get_or c.loop-place.table.items c.args.mitigations []) 0 0 ≡ shares (digits n) c.args.mitigations n 0 =
    table c.args.mitigations few 0 (omega arith) in
    let told : c.index.result.now ≡ get_or c.loop-place.table.items c.args.mitigations [] =
    let within : c.args.mitigations < length c.loop-place.table.items = omega (arith, few, c.loop-place.invariant.0) in
    sym (get_or_from_slice_get c.loop-place.table.items c.args.mitigations c.index.result.now []
    (slice_get_read c.loop-place.table.items (length c.loop-place.table.items) c.args.mitigations c.index.result.now refl within c.index.ensures)) in
    record {
      exact = λ le all h. ap (λ z. Some z) (ap (λ z. get_or z 0 0) told ∙ cell ∙ ways_of_level c.args.t c.args.first c.args.mitigations all h);
      left_out = λ more. absurd (omega arith);
      few = subst (λ z. z ≤ rising (digits n) c.args.mitigations) (sym (ap (λ z. get_or z 0 0) told ∙ cell)) (shares_few (digits n) c.args.mitigations n 0);
      one = λ e. ap (λ z. Some z) (ap (λ z. get_or z 0 0) told ∙ cell ∙ ap (λ k. shares (digits n) k n 0) e ∙ ways_of_one n);
    }

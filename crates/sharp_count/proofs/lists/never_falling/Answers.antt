use Rattle.std.proofs.Common.{◌≡◌, ℕ, zero, suc, ◌+◌, ◌^◌, ◌≤◌, refl, sym, ap, ◌∙◌, arith}
use Rattle.leak_bound.specs.Rising.{rising}
use Rattle.sharp_count.specs.Count.{fitting}
use Rattle.leak_bound.proofs.Choose.{rising-zero, rising-one, rising-le}
use Rattle.sharp_count.proofs.Fitting.{fits, over, untold}
use Rattle.sharp_count.proofs.lists.never_falling.Goals as goal

none_some : (k : ℕ) → (k ≡ 0 → ⊥) → rising 0 k ≡ 0
none_some zero h = absurd (h refl)
none_some (suc k) h = rising-zero k

pub returns-else-entries-eq0 : goal.returns-else-entries-eq0
returns-else-entries-eq0 c =
    let none : rising c.args.values c.args.entries ≡ 0 =
    ap (λ z. rising z c.args.entries) c.if-values-eq0.true ∙ none_some c.args.entries c.if-entries-eq0.false in
    sym (ap fitting none)

some_of : (n : ℕ) → (n ≡ 0 → ⊥) → 1 ≤ n
some_of zero h = absurd (h refl)
some_of (suc n) h = omega arith

pub loop-value-init : goal.loop-value-init
loop-value-init c = (sym (rising-one c.args.entries), omega arith)

pub returns-in_default : goal.returns-in_default
returns-in_default c =
    let far : 2 ^ 128 ≤ rising (c.loop-value.value + 1) c.args.entries = untold _ (sym c.in_default.is ∙ c.with_one_more.ensures) in
    let more = rising-le (c.loop-value.value + 1) c.args.values c.args.entries (omega (arith, c.loop-value-test.true)) in
    sym (over (rising c.args.values c.args.entries) (omega (arith, far, more)))

pub returns : goal.returns
returns c =
    let end : c.loop-value.value ≡ c.args.values =
    omega (arith, c.loop-value-test.false, c.loop-value.auto.value-end (some_of c.args.values c.if-values-eq0.false)) in
    sym (fits c.loop-value.lists c.loop-value.invariant.1) ∙ ap fitting (c.loop-value.invariant.0 ∙ ap (λ z. rising z c.args.entries) end)

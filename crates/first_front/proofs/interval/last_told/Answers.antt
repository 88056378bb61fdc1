use Rattle.std.proofs.Common.{arith, rules, ◌≡◌, ◌≢◌, ◌∙◌, ◌+◌, ◌-◌, ◌/◌, ℕ, List, map, sym, subst, false}
use Rattle.std.specs.Prelude.{MatchBool}
use Rattle.first_front.specs.Told.{tells}
use Rattle.first_front.proofs.Constant.{halved_high, halved_last}
use Rattle.first_front.proofs.interval.last_told.Goals as goal

pub loop-low-preserved : goal.loop-low-preserved
loop-low-preserved c =
    let b : c.in_ok-same.same ≡ false = search (rules, c.if-same.false) in
    let middle = c.loop-low.low + (c.loop-low.high - c.loop-low.low + 1) / 2 in
    let lists = map (λ x. x.items) c.args.counts.now.items in
    let told : List (List ℕ) = tells c.args.varied.now middle c.args.classes.now in
    let differ : told ≢ lists = subst (λ z. MatchBool z (told ≡ lists) (told ≢ lists)) b c.in_ok-same.ensures.told in
    record {
      halved = halved_high c.args.varied.now c.args.classes.now c.args.first c.loop-low.low c.loop-low.high _ c.requires.some c.loop-low.invariant.halved
          (omega arith) (omega arith) (λ e. differ (e ∙ sym c.requires.counts));
      short = c.loop-low.invariant.short;
    }

pub returns-clause-last : goal.returns-clause-last
returns-clause-last c =
    halved_last c.args.varied.now c.args.classes.now c.args.first c.loop-low.low c.loop-low.high c.requires.some
    c.loop-low.invariant.halved c.loop-low-test.false

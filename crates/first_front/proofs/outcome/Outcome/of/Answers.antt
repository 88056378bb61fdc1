use Rattle.std.proofs.Common.{arith, rules, ap, ◌∙◌, ◌≡◌, ◌<◌, ◌-◌, ◌^◌}
use Rattle.run_entries.specs.Entries.{entries_of}
use Rattle.first_front.specs.declared.fault.WalkFault.TheVariants as fault
use Rattle.first_front.specs.Told.{told_at, shown_at, end_at, latest_at}
use Rattle.first_front.proofs.Summing.{cost_fits, summed_more, all_summed, too_late, listed}
use Rattle.first_front.proofs.outcome.Outcome.of.Goals as goal

pub returns-in_err-run-clause-fault : goal.returns-in_err-run-clause-fault
returns-in_err-run-clause-fault c =
    let late : c.in_err-run.field-0.0 ≡ fault.TooLong → 2 ^ 64 - 1 < latest_at c.args.varied.now c.args.first c.args.classes.now = λ e.
    too_late c.args.varied.now c.args.first c.args.classes.now c.loop-class.class-index c.class-item.result c.deref.result.now
    c.loop-class-test.true c.class-item.is c.deref.ensures.value (c.in_err-run.ensures.fault e) in
    search (rules, late)

pub overflow_add-cost : goal.overflow_add-cost
overflow_add-cost c =
    let fits = cost_fits c.args.varied.now c.args.first c.args.classes.now c.loop-class.class-index c.class-item.result _ _
    c.loop-class.cost c.loop-class.latest c.in_ok-run.run'.end c.loop-class-test.true c.class-item.is c.loop-class.invariant (omega arith) c.requires.starts in
    omega (arith, fits)

pub loop-class-preserved : goal.loop-class-preserved
loop-class-preserved c =
    let counts = c.in_ok-run.ensures.counts ∙ ap (λ z. told_at c.args.varied.now c.args.first (entries_of z)) c.deref.ensures.value in
    let shown = c.in_ok-run.ensures.shown ∙ ap (λ z. shown_at c.args.varied.now c.args.first (entries_of z)) c.deref.ensures.value in
    let end = c.in_ok-run.ensures.end ∙ ap (λ z. end_at c.args.varied.now c.args.first (entries_of z)) c.deref.ensures.value in
    summed_more c.args.varied.now c.args.first c.args.classes.now c.loop-class.class-index c.class-item.result _ _ _ _ c.loop-class.cost c.loop-class.latest
    c.in_ok-run.run'.end c.max-latest.result c.loop-class-test.true c.class-item.is c.loop-class.invariant
    (listed (λ x. x.items) c.loop-class.counts.items c.push.new.self.items c.in_ok-run.run'.counts _ c.in_ok-push.ensures.items counts)
    (listed (λ x. x.items) c.loop-class.shown.items c.push-in-loop-class.new.self.items c.in_ok-run.run'.shown _ c.in_ok-push-2.ensures.items shown)
    end (omega arith) (search rules)

pub returns-clause-outcome : goal.returns-clause-outcome
returns-clause-outcome c =
    all_summed c.args.varied.now c.args.first c.args.classes.now c.loop-class.class-index _ (omega (arith, c.loop-class-test.false)) c.loop-class.invariant

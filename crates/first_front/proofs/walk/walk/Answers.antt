use Rattle.std.proofs.Common.{arith, sym, subst, ◌+◌}
use Rattle.first_front.specs.Intervals.{Covers}
use Rattle.first_front.proofs.Covering.{covers_more}
use Rattle.first_front.proofs.walk.walk.Goals as goal

pub loop-first-preserved : goal.loop-first-preserved
loop-first-preserved c =
    let more = covers_more c.args.varied.now c.args.classes.now 1 c.loop-first.first c.loop-first.intervals.items c.in_ok-interval.interval
    c.loop-first.invariant.covers c.in_ok-interval.ensures.first c.in_ok-interval.ensures.interval in
    let one = c.in_ok-interval.ensures.interval in
    record {
      covers = subst (λ z. Covers c.args.varied.now c.args.classes.now 1 z (c.in_ok-interval.interval.last + 1)) (sym c.in_ok-push.ensures.items) more;
      some = omega arith;
      within = omega (arith, one.last.within);
    }

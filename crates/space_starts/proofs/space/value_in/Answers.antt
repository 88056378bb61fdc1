use Rattle.std.proofs.Common.{◌≡◌, ◌∙◌, sym, pos, w64, to_z, of_z, to_z-of_z, arith}
use Rattle.space_starts.specs.declared.space.Interval.{Interval}
use Rattle.space_starts.proofs.Values.{many_more, none_left, value_here, value_later}
use Rattle.space_starts.proofs.space.value_in.Goals as goal

abbrev none : Interval
none = record { first = pos 0; more = 0 }

pub returns-then-left-interval : goal.returns-then-left-interval
returns-then-left-interval c =
    let kept : to_z w64 (of_z w64 c.value_at.result) ≡ c.value_at.result = grind (arith, to_z-of_z) in
    kept ∙ c.value_at.ensures
    ∙ sym (c.loop-interval.invariant.same ∙ value_here c.args.intervals.now c.loop-interval.interval-index none c.loop-interval-test.true
    c.loop-interval.left c.if-left-interval.true)

pub loop-interval-preserved : goal.loop-interval-preserved
loop-interval-preserved c =
    let more = many_more c.args.intervals.now c.loop-interval.interval-index none c.loop-interval-test.true in
    let gt = c.if-left-interval.false in
    let inside = c.loop-interval.invariant.inside in
    record {
      inside = omega (arith, more, gt, inside);
      same = c.loop-interval.invariant.same ∙ value_later c.args.intervals.now c.loop-interval.interval-index none c.loop-interval-test.true
          c.loop-interval.left gt;
    }

pub returns : goal.returns
returns c =
    let none = none_left c.args.intervals.now c.loop-interval.interval-index c.loop-interval-test.false in
    let inside = c.loop-interval.invariant.inside in
    absurd (omega (arith, none, inside))

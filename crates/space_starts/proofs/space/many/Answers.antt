use Rattle.std.proofs.Common.{◌≡◌, ◌∙◌, ◌^◌, sym, ap, pos, arith}
use Rattle.start_space.specs.Space.{within}
use Rattle.space_starts.specs.declared.space.Interval.{Interval}
use Rattle.space_starts.specs.Space.{many}
use Rattle.space_starts.proofs.Values.{many_more, none_left, too_many, few}
use Rattle.space_starts.proofs.space.many.Goals as goal

abbrev none : Interval
none = record { first = pos 0; more = 0 }

pub loop-interval-preserved : goal.loop-interval-preserved
loop-interval-preserved c =
    let more = many_more c.args.intervals.now c.loop-interval.interval-index none c.loop-interval-test.true in
    let lt = c.if-interval-many.false in
    let so_far = c.loop-interval.invariant.few in
    let rest = c.loop-interval.invariant.rest in
    record { few = omega (arith, lt, so_far); rest = omega (arith, more, rest) }

pub returns-then-interval-many : goal.returns-then-interval-many
returns-then-interval-many c =
    let more = many_more c.args.intervals.now c.loop-interval.interval-index none c.loop-interval-test.true in
    let le = c.if-interval-many.true in
    let so_far = c.loop-interval.invariant.few in
    let rest = c.loop-interval.invariant.rest in
    sym (too_many (many c.args.intervals.now) (omega (arith, more, le, so_far, rest)))

pub returns : goal.returns
returns c =
    let none = none_left c.args.intervals.now c.loop-interval.interval-index c.loop-interval-test.false in
    let rest = c.loop-interval.invariant.rest in
    let all : many c.args.intervals.now ≡ c.loop-interval.many = omega (arith, none, rest) in
    sym (ap (within (2 ^ 40)) all ∙ few c.loop-interval.many c.loop-interval.invariant.few)

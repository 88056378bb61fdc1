use Rattle.std.proofs.Common.{◌∙◌, ◌-◌, sym, pos, arith}
use Rattle.space_starts.specs.declared.space.Interval.{Interval}
use Rattle.space_starts.proofs.Meeting.{clear_more, met, clear}
use Rattle.space_starts.proofs.apart.neighbours_apart.Goals as goal

abbrev none : Interval
none = record { first = pos 0; more = 0 }

pub loop-k-preserved : goal.loop-k-preserved
loop-k-preserved c =
    clear_more c.args.sorted.now c.loop-k.k none c.loop-k.auto.k c.loop-k-test.true (sym c.meet.ensures ∙ c.if-meet.false) c.loop-k.invariant

pub returns-then-meet : goal.returns-then-meet
returns-then-meet c =
    let some = c.loop-k.auto.k in
    sym (met c.args.sorted.now (c.loop-k.k - 1) c.loop-k.k none (omega (arith, some)) c.loop-k-test.true (sym c.meet.ensures ∙ c.if-meet.true))

pub returns : goal.returns
returns c =
    let all = c.loop-k-test.false in
    sym (clear c.args.sorted.now c.requires (λ m d lt. c.loop-k.invariant m d (omega (arith, lt, all))))

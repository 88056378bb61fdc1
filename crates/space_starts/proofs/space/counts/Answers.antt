use Rattle.std.proofs.Common.{◌≡◌, ◌∙◌, ◌<◌, ◌^◌, ap, sym, subst, [], Vec, get_or, arith}
use Rattle.std.specs.declared.alloc.Global.{Global}
use Rattle.std.proofs.lemmas.List.{length-map, get_or-map}
use Rattle.space_starts.specs.declared.space.Interval.{Interval}
use Rattle.space_starts.specs.Space.{many, lists}
use Rattle.space_starts.proofs.Values.{within_is, not_within, counts_more, counts_all, too_large}
use Rattle.space_starts.proofs.space.counts.Goals as goal

pub loop-intervals-preserved : goal.loop-intervals-preserved
loop-intervals-preserved c =
    counts_more c.args.memory.now c.loop-intervals.intervals-index c.loop-intervals.counts.items c.loop-intervals.invariant c.intervals-item.result
    c.push.new.self.items c.in-Some.many c.loop-intervals-test.true c.intervals-item.is
    (within_is (many c.deref.result.now) c.in-Some.many (sym c.in-Some.is ∙ c.many.ensures) ∙ ap many c.deref.ensures.value) c.in_ok-push.ensures.items

pub returns-in_default : goal.returns-in_default
returns-in_default c =
    let lt = c.loop-intervals-test.true in
    let long = length-map c.args.memory.now (λ (x : Vec Interval Global). x.items) in
    let big = not_within (many c.deref.result.now) c.in_default.ensures in
    let held : c.deref.result.now ≡ get_or (lists c.args.memory.now) c.loop-intervals.intervals-index [] =
    c.deref.ensures.value
    ∙ sym (get_or-map (λ (x : Vec Interval Global). x.items) c.args.memory.now c.loop-intervals.intervals-index c.intervals-item.result [] lt
    ∙ ap (λ (x : Vec Interval Global). x.items) (sym c.intervals-item.is)) in
    too_large (lists c.args.memory.now) c.loop-intervals.intervals-index [] c.requires (omega (arith, lt, long)) (subst (λ v. 2 ^ 40 < many v) held big)

pub returns : goal.returns
returns c = counts_all c.args.memory.now c.loop-intervals.intervals-index c.loop-intervals.counts.items c.loop-intervals.invariant c.loop-intervals-test.false

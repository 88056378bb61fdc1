use Rattle.std.proofs.Common.{◌≡◌, ◌<◌, ◌∙◌, sym, ap, Vec, arith}
use Rattle.std.specs.declared.alloc.Global.{Global}
use Rattle.space_starts.specs.declared.space.Interval.{Interval}
use Rattle.space_starts.specs.Space.{apart}
use Rattle.space_file.proofs.Lists.{once_more, none_twice, one_twice}
use Rattle.space_file.proofs.read.have_none_twice.Goals as goal

pub loop-values-preserved : goal.loop-values-preserved
loop-values-preserved c =
    once_more c.args.memory.now c.loop-values.values-index c.values-item.result c.loop-values-test.true c.values-item.is
    (ap apart (sym c.deref.ensures.value) ∙ sym c.in_ok-apart.ensures ∙ c.if-not-apart.false) c.loop-values.invariant

pub returns-then-not-apart : goal.returns-then-not-apart
returns-then-not-apart c =
    sym (one_twice c.args.memory.now c.loop-values.values-index c.values-item.result c.loop-values-test.true
    (ap (λ (v : Vec Interval Global). apart v.items) (sym c.values-item.is) ∙ ap apart (sym c.deref.ensures.value) ∙ sym c.in_ok-apart.ensures
    ∙ c.if-not-apart.true))

pub returns : goal.returns
returns c =
    let all = c.loop-values-test.false in
    sym (none_twice c.args.memory.now (λ k d lt. c.loop-values.invariant k d (omega (arith, lt, all))))

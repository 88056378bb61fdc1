use Rattle.std.proofs.Common.{arith, rules, true, false, sym, ◌∙◌, ◌≡◌}
use Rattle.first_front.proofs.Lists.{different_more}
use Rattle.first_front.proofs.interval.different.Goals as goal
use Rattle.first_front.proofs.interval.different.Goals.{then-not-again, else-not-again}

pub loop-index-preserved : goal.loop-index-preserved
loop-index-preserved c =
    elim c.if-not-again.branch [
      | then-not-again w ↦
          let b : c.is_among-again.result ≡ false = search (rules, w.if-not-again.true) in
          let more = different_more (λ x. x.items) c.args.lists.now c.loop-index.index c.index-lists-index.result false c.loop-index-test.true
          c.index-lists-index.is (sym b ∙ c.is_among-again.ensures) in
          record {
            counted = omega (arith, c.loop-index.invariant.counted, more, w.different-is);
            few = omega (arith, c.loop-index.invariant.few, w.different-is);
          }
      | else-not-again w ↦
          let b : c.is_among-again.result ≡ true = search (rules, w.if-not-again.false) in
          let more = different_more (λ x. x.items) c.args.lists.now c.loop-index.index c.index-lists-index.result true c.loop-index-test.true
          c.index-lists-index.is (sym b ∙ c.is_among-again.ensures) in
          record {
            counted = omega (arith, c.loop-index.invariant.counted, more, w.different-is);
            few = omega (arith, c.loop-index.invariant.few, w.different-is);
          }
    ]

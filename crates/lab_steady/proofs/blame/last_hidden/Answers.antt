use Rattle.std.proofs.Common.{◌≤◌, sym, ap, ◌∙◌, arith}
use Rattle.timing_types.specs.Labelled.{order_of, labels_of}
use Rattle.steady_code.specs.Timed.{low_of}
use Rattle.lab_steady.specs.Blame.{hidden_by}
use Rattle.lab_steady.proofs.Blames.{not_there, none_of}
use Rattle.lab_steady.proofs.blame.last_hidden.Goals as goal

pub loop-at-preserved : goal.loop-at-preserved
loop-at-preserved c =
    let low = low_of (order_of c.args.p.now) (labels_of c.args.p.now) c.args.observer.number in
    let i = c.loop-at.invariant in
    let le : c.loop-at.at ≤ c.args.to = i.0 in (
      omega (arith, le),
      i.1 ∙ not_there low c.args.image.now.instrs c.args.from c.loop-at.at c.loop-at-test.true
          (ap (hidden_by low) c.at.ensures ∙ sym c.hidden-read.ensures ∙ none_of c.hidden-read.result c.is_some.result c.is_some.ensures c.if-is_some.false),
    )

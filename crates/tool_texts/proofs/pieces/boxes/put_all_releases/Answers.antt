use Rattle.std.proofs.Common.{refl, ap, ◌∙◌, ◌++◌, ◌+◌, get_or}
use Rattle.tool_texts.specs.Reports.{release_lines}
use Rattle.tool_texts.proofs.PieceLemmas.{none_put, next_put, all_put, releases_text, all_releases_numbered}
use Rattle.tool_texts.proofs.pieces.boxes.put_all_releases.Goals as goal

pub loop-k-init : goal.loop-k-init
loop-k-init c = none_put releases_text c.args.runs.now _ _ refl

pub loop-k-preserved : goal.loop-k-preserved
loop-k-preserved c =
    next_put releases_text c.args.runs.now _ c.loop-k.text.items _ c.loop-k.k (get_or c.args.runs.now c.loop-k.k c.index-runs-k.result) c.index-runs-k.result
    c.loop-k-test.true refl c.loop-k.invariant
    (c.in_ok-put_releases.ensures ∙ ap (λ z. c.loop-k.text.items ++ release_lines (c.loop-k.k + 1) 1 z) c.as_slice.ensures.value)

pub returns : goal.returns
returns c =
    all_put releases_text c.args.runs.now _ _ c.loop-k.k c.loop-k-test.false c.loop-k.invariant
    ∙ ap (λ z. c.args.text.now.items ++ z) (all_releases_numbered 1 c.args.runs.now)

use Rattle.std.proofs.Common.{refl, ap, ◌∙◌, ◌++◌}
use Rattle.tool_texts.specs.Reports.{release_line}
use Rattle.tool_texts.proofs.PieceLemmas.{none_put, next_put, all_put, releases_numbered}
use Rattle.tool_texts.proofs.pieces.boxes.put_releases.Goals as goal

pub loop-k-init : goal.loop-k-init
loop-k-init c = none_put (release_line c.args.run) c.args.at.now _ _ refl

pub loop-k-preserved : goal.loop-k-preserved
loop-k-preserved c =
    next_put (release_line c.args.run) c.args.at.now _ c.loop-k.text.items _ c.loop-k.k _ 0 c.loop-k-test.true refl c.loop-k.invariant
    (c.in_ok-put.ensures ∙ ap (λ z. c.loop-k.text.items ++ z) c.release.ensures)

pub returns : goal.returns
returns c =
    all_put (release_line c.args.run) c.args.at.now _ _ c.loop-k.k c.loop-k-test.false c.loop-k.invariant
    ∙ ap (λ z. c.args.text.now.items ++ z) (releases_numbered c.args.run 1 c.args.at.now)

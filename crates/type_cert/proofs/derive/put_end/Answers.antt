use Rattle.std.proofs.Common.{refl, ap, ◌∙◌, ◌++◌, ◌∷◌}
use Rattle.type_cert.specs.declared.line.Line.{Line}
use Rattle.type_cert.proofs.Lines.{put_item, got_item}
use Rattle.type_cert.proofs.derive.put_end.Goals as goal

pub returns : goal.returns
returns c = λ x y l e n.
    let got = got_item x y c.args.lines.now l _ c.args.number e n in
    put_item x y c.args.lines.now _ l _ c.args.number e n refl ∙ ap (λ (z : Line). x ++ record z { end = c.args.end } ∷ y) got

use Rattle.std.proofs.Common.{◌++◌, ap, sym, ◌∙◌, arith, map}
use Rattle.source_meaning.specs.Frames.{without_last}
use Rattle.source_meaning.proofs.Places.{some_full, last_put}
use Rattle.source_meaning.proofs.frames.leave.Goals as goal

pub returns-else-is_empty : goal.returns-else-is_empty
returns-else-is_empty c =
    last_put (λ f. f.now) c.args.frames.now.items c.len-last.result c.args.rest (c.len-last.ensures ∙ c.args.frames.now.ok.0)
    (omega (arith, c.len-last.ensures, c.requires))
    ∙ ap (λ z. without_last (map (λ f. f.now) c.args.frames.now.items) ++ z)
    (sym (some_full c.args.rest.now c.is_empty.result c.is_empty.ensures c.if-is_empty.false))

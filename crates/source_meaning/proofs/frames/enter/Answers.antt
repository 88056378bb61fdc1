use Rattle.std.proofs.Common.{◌++◌, ◌∷◌, [], ap, sym, ◌∙◌, arith, map}
use Rattle.source_meaning.specs.Frames.{without_last}
use Rattle.source_meaning.proofs.Places.{some_full, some_none, last_put, last_two}
use Rattle.source_meaning.proofs.frames.enter.Goals as goal

pub returns-then-is_empty-clause-ok : goal.returns-then-is_empty-clause-ok
returns-then-is_empty-clause-ok c =
    last_put (λ f. f.now) c.args.frames.now.items c.len-last.result c.args.body (c.len-last.ensures ∙ c.args.frames.now.ok.0)
    (omega (arith, c.len-last.ensures, c.requires))
    ∙ ap (λ z. without_last (map (λ f. f.now) c.args.frames.now.items) ++ (z ++ c.args.body.now ∷ []))
    (sym (some_none c.args.rest.now c.is_empty.result c.is_empty.ensures c.if-is_empty.true))

pub returns-in_ok-push-clause-ok : goal.returns-in_ok-push-clause-ok
returns-in_ok-push-clause-ok c =
    last_two (λ f. f.now) c.args.frames.now.items c.push.new.self.items c.len-last.result c.args.rest c.args.body c.in_ok-push.ensures.items (c.len-last.ensures
    ∙ c.args.frames.now.ok.0) (omega (arith, c.len-last.ensures, c.requires))
    ∙ ap (λ z. without_last (map (λ f. f.now) c.args.frames.now.items) ++ (z ++ c.args.body.now ∷ []))
    (sym (some_full c.args.rest.now c.is_empty.result c.is_empty.ensures c.if-is_empty.false))

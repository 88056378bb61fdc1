use Rattle.std.proofs.Common.{◌∙◌, ◌∷◌, [], ap, sym, subst}
use Rattle.flow_path.specs.Distances.{IsBest, best_by, and_then}
use Rattle.flow_path.proofs.Firsts.{single_best}
use Rattle.flow_path.proofs.best.single.Goals as goal

pub returns : goal.returns
returns c =
    let r = c.args.round.now in
    subst (λ z. IsBest r.program.now r.target.now r.known.now.variables.items (c.args.part ∷ []) z)
    (sym (c.only.ensures ∙ ap (λ z. best_by c.args.part (and_then z c.args.part.how)) c.cost_to.ensures.cost))
    (single_best r.program.now r.target.now r.known.now.variables.items c.args.part)

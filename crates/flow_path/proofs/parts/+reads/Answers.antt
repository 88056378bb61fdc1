use Rattle.std.proofs.Common.{◌++◌, ◌∙◌, ap, sym, subst}
use Rattle.mit_syntax.specs.Expression.{expression_of}
use Rattle.flow_path.specs.declared.step.Spot.TheVariants.{Variable}
use Rattle.flow_path.specs.Steps.{one, reads}
use Rattle.flow_path.specs.Distances.{IsBest}
use Rattle.flow_path.proofs.parts.+reads.Goals as goal

pub returns-in-Binary : goal.returns-in-Binary
returns-in-Binary t c =
    let r = c.args.round.now in
    let h = c.args.how in
    let q = c.args.pos in
    subst (λ z. IsBest r.program.now r.target.now r.known.now.variables.items z c.better.result)
    (sym (ap (λ z. reads c.args.how c.args.pos (expression_of z)) c.in-Binary.is
    ∙ (ap (λ z. reads c.args.how c.args.pos (expression_of z) ++ reads c.args.how c.args.pos (expression_of c.in-Binary.right.value)) (sym c.deref.ensures)
    ∙ ap (λ z. reads c.args.how c.args.pos (expression_of c.deref.result.now) ++ reads c.args.how c.args.pos (expression_of z))
    (sym c.deref-in-Binary.ensures))))
    (c.better.ensures r.program.now r.target.now r.known.now.variables.items (reads h q (expression_of c.deref.result.now))
    (reads h q (expression_of c.deref-in-Binary.result.now)) c.reads-a.ensures c.reads-b.ensures)

pub returns-in-Element : goal.returns-in-Element
returns-in-Element t c =
    let r = c.args.round.now in
    let h = c.args.how in
    let q = c.args.pos in
    subst (λ z. IsBest r.program.now r.target.now r.known.now.variables.items z c.better-in-Element.result)
    (sym (ap (λ z. reads c.args.how c.args.pos (expression_of z)) c.in-Element.is
    ∙ ap (λ z. one c.args.how c.args.pos (Variable c.in-Element.first) ++ reads c.args.how c.args.pos (expression_of z)) (sym c.deref-in-Element.ensures)))
    (c.better-in-Element.ensures r.program.now r.target.now r.known.now.variables.items (one h q (Variable c.in-Element.first))
    (reads h q (expression_of c.deref-in-Element.result.now)) c.single-a.ensures c.reads-b-in-Element.ensures)

use Rattle.std.proofs.Common.{◌++◌, ◌∙◌, ap, sym, subst}
use Rattle.mit_syntax.specs.Expression.{expression_of}
use Rattle.flow_path.specs.declared.step.How.TheVariants.{ReadsInIndex}
use Rattle.flow_path.specs.Steps.{reads, index_reads}
use Rattle.flow_path.specs.Distances.{IsBest}
use Rattle.flow_path.proofs.parts.+index_reads.Goals as goal

pub returns-in-Binary : goal.returns-in-Binary
returns-in-Binary t c =
    let r = c.args.round.now in
    let q = c.args.pos in
    subst (λ z. IsBest r.program.now r.target.now r.known.now.variables.items z c.better.result)
    (sym (ap (λ z. index_reads c.args.pos (expression_of z)) c.in-Binary.is
    ∙ (ap (λ z. index_reads c.args.pos (expression_of z) ++ index_reads c.args.pos (expression_of c.in-Binary.right.value)) (sym c.deref.ensures)
    ∙ ap (λ z. index_reads c.args.pos (expression_of c.deref.result.now) ++ index_reads c.args.pos (expression_of z)) (sym c.deref-in-Binary.ensures))))
    (c.better.ensures r.program.now r.target.now r.known.now.variables.items (index_reads q (expression_of c.deref.result.now))
    (index_reads q (expression_of c.deref-in-Binary.result.now)) c.index_reads-a.ensures c.index_reads-b.ensures)

pub returns-in-Element : goal.returns-in-Element
returns-in-Element t c =
    let r = c.args.round.now in
    subst (λ z. IsBest r.program.now r.target.now r.known.now.variables.items z c.reads.result)
    (sym (ap (λ z. index_reads c.args.pos (expression_of z)) c.in-Element.is
    ∙ ap (λ z. reads ReadsInIndex c.args.pos (expression_of z)) (sym c.deref-in-Element.ensures)))
    c.reads.ensures

use Rattle.mit_syntax.specs.Expression.{expression_of}
use Rattle.flow_path.specs.declared.step.How.TheVariants.{AfterComputing}
use Rattle.flow_path.specs.Steps.{reads, after_set}
use Rattle.flow_path.proofs.parts.after_put.Goals as goal

pub returns : goal.returns
returns c =
    let r = c.args.round.now in
    λ T h.
    c.better.ensures r.program.now r.target.now r.known.now.variables.items
    (after_set T (record { pos = c.args.pos; labels = c.args.labels.now }) c.args.first (expression_of c.args.e.now))
    (reads AfterComputing c.args.pos (expression_of c.args.index.now)) (c.after_set-set.ensures T h) c.reads-read.ensures

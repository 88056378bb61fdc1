use Rattle.mit_syntax.specs.Expression.{expression_of}
use Rattle.flow_path.specs.declared.step.Spot.TheVariants.{Variable}
use Rattle.flow_path.specs.declared.step.How.TheVariants.{AfterAssigning}
use Rattle.flow_path.specs.Steps.{one}
use Rattle.flow_path.proofs.Base.{computed}
use Rattle.flow_path.proofs.parts.after_set.Goals as goal

pub returns : goal.returns
returns c =
    let r = c.args.round.now in
    λ T h.
    c.better.ensures r.program.now r.target.now r.known.now.variables.items
    (computed T (record { pos = c.args.pos; labels = c.args.labels.now }) (expression_of c.args.e.now)) (one AfterAssigning c.args.pos (Variable c.args.x))
    (c.after_by-read.ensures T h) c.single-set.ensures

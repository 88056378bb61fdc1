use Rattle.mit_syntax.specs.Expression.{expression_of}
use Rattle.flow_path.specs.declared.step.How.TheVariants.{UnderGuard}
use Rattle.flow_path.specs.Steps.{reads}
use Rattle.flow_path.proofs.parts.inside.Goals as goal

pub returns : goal.returns
returns c =
    let r = c.args.round.now in
    λ P h. c.better.ensures r.program.now r.target.now r.known.now.variables.items P
    (reads UnderGuard c.args.pos (expression_of c.args.guard.now)) h c.reads-read.ensures

use Rattle.mit_syntax.specs.Expression.{expression_of}
use Rattle.flow_path.specs.Steps.{index_reads}
use Rattle.flow_path.proofs.parts.here.Goals as goal

pub returns : goal.returns
returns c =
    let r = c.args.round.now in
    λ P h. c.better.ensures r.program.now r.target.now r.known.now.variables.items P
    (index_reads c.args.pos (expression_of c.args.e.now)) h c.index_reads-read.ensures

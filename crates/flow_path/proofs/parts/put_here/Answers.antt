use Rattle.std.specs.Prelude.{◌++◌}
use Rattle.mit_syntax.specs.Expression.{expression_of}
use Rattle.flow_path.specs.declared.step.How.TheVariants.{ReadsInIndex}
use Rattle.flow_path.specs.Steps.{reads, index_reads}
use Rattle.flow_path.proofs.parts.put_here.Goals as goal

pub returns : goal.returns
returns c =
    let r = c.args.round.now in
    λ P h.
    c.better.ensures r.program.now r.target.now r.known.now.variables.items P (reads ReadsInIndex c.args.pos (expression_of c.args.index.now)
    ++ index_reads c.args.pos (expression_of c.args.e.now)) h
    (c.better-own.ensures r.program.now r.target.now r.known.now.variables.items (reads ReadsInIndex c.args.pos (expression_of c.args.index.now))
    (index_reads c.args.pos (expression_of c.args.e.now)) c.reads-place.ensures c.index_reads-read.ensures)

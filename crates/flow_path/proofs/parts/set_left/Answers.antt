use Rattle.std.specs.Prelude.{◌++◌}
use Rattle.mit_syntax.specs.Expression.{expression_of}
use Rattle.flow_path.specs.declared.step.How.TheVariants.{Reads, HasReadLabel}
use Rattle.flow_path.specs.Steps.{reads, read_label}
use Rattle.flow_path.proofs.parts.set_left.Goals as goal

pub returns : goal.returns
returns c =
    let r = c.args.round.now in
    λ P T h k.
    c.better.ensures r.program.now r.target.now r.known.now.variables.items (reads Reads c.args.pos (expression_of c.args.e.now))
    (P ++ (read_label HasReadLabel c.args.pos c.args.labels.now ++ T)) c.reads-read.ensures (c.around-rest.ensures P T h k)

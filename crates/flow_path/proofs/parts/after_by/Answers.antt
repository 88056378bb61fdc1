use Rattle.std.specs.Prelude.{◌++◌}
use Rattle.mit_syntax.specs.Expression.{expression_of}
use Rattle.flow_path.specs.declared.step.How.TheVariants.{AfterReadLabel}
use Rattle.flow_path.specs.Steps.{reads, read_label}
use Rattle.flow_path.proofs.parts.after_by.Goals as goal

pub returns : goal.returns
returns c =
    let r = c.args.round.now in
    λ T h.
    c.better.ensures r.program.now r.target.now r.known.now.variables.items T (reads c.args.how c.args.pos (expression_of c.args.e.now)
    ++ read_label AfterReadLabel c.args.pos c.args.labels.now) h
    (c.better-own.ensures r.program.now r.target.now r.known.now.variables.items (reads c.args.how c.args.pos (expression_of c.args.e.now))
    (read_label AfterReadLabel c.args.pos c.args.labels.now) c.reads-read.ensures c.read_label-label.ensures)

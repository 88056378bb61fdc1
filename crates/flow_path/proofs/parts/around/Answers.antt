use Rattle.std.specs.Prelude.{◌++◌}
use Rattle.flow_path.specs.declared.step.How.TheVariants.{HasReadLabel}
use Rattle.flow_path.specs.Steps.{read_label}
use Rattle.flow_path.proofs.parts.around.Goals as goal

pub returns : goal.returns
returns c =
    let r = c.args.round.now in
    λ P T h k.
    c.better.ensures r.program.now r.target.now r.known.now.variables.items P (read_label HasReadLabel c.args.pos c.args.labels.now ++ T) h
    (c.better-time.ensures r.program.now r.target.now r.known.now.variables.items (read_label HasReadLabel c.args.pos c.args.labels.now) T
    c.read_label-label.ensures k)

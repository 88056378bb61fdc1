use Rattle.flow_path.specs.declared.step.How.TheVariants.{AfterReadLabel}
use Rattle.flow_path.specs.Steps.{read_label}
use Rattle.flow_path.proofs.parts.after_skip.Goals as goal

pub returns : goal.returns
returns c =
    let r = c.args.round.now in
    λ T h. c.better.ensures r.program.now r.target.now r.known.now.variables.items T
    (read_label AfterReadLabel c.args.pos c.args.labels.now) h c.read_label-label.ensures

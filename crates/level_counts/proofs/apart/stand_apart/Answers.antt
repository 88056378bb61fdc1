use Rattle.std.proofs.Common.{ap, ◌∙◌}
use Rattle.timing_types.specs.Labelled.{LabelledProgram}
use Rattle.level_counts.proofs.Walking.{are_apart, not_apart}
use Rattle.level_counts.proofs.apart.stand_apart.Goals as goal

pub returns-clause-apart : goal.returns-clause-apart
returns-clause-apart c =
    let q : LabelledProgram = c.args.p.now.labelled in
    are_apart q c.program.result.now c.args.observer.number c.deref.result.now c.body.result.now c.list_apart.result
    (c.program.ensures.program ∙ ap (λ (z : LabelledProgram). z.program) c.labelled-labelled.ensures.labelled) c.body.ensures.body
    (c.deref.ensures.value ∙ c.in_ok-relevant.ensures) c.list_apart.ensures

pub returns-clause-not_apart : goal.returns-clause-not_apart
returns-clause-not_apart c =
    let q : LabelledProgram = c.args.p.now.labelled in
    not_apart q c.program.result.now c.args.observer.number c.deref.result.now c.body.result.now c.list_apart.result
    (c.program.ensures.program ∙ ap (λ (z : LabelledProgram). z.program) c.labelled-labelled.ensures.labelled) c.body.ensures.body
    (c.deref.ensures.value ∙ c.in_ok-relevant.ensures) c.list_apart.ensures

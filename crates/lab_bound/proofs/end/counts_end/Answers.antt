use Rattle.std.proofs.Common.{◌≡◌, ap, ◌∙◌}
use Rattle.timing_types.specs.Labelled.{LabelledProgram}
use Rattle.lab_bound.proofs.EndLabel.{counted, not_counted}
use Rattle.lab_bound.proofs.end.counts_end.Goals as goal

pub returns-clause-counted : goal.returns-clause-counted
returns-clause-counted c =
    let q : LabelledProgram = c.args.typed.now.labelled in
    let same : c.labelled-labelled.result.now ≡ q = c.labelled-labelled.ensures.labelled in
    let program : c.program-program.result.now ≡ q.program = c.program-program.ensures.program ∙ ap (λ (z : LabelledProgram). z.program) same in
    let labels : c.labels.result.now ≡ q.labels = c.labels.ensures ∙ ap (λ (z : LabelledProgram). z.labels) same in
    counted q c.program-program.result.now c.lattice-order.result.now c.labels.result.now c.body.result.now c.bottom-bottom.result c.loop_end-end.result
    c.args.observer.number c.flows.result program c.lattice-order.ensures labels c.body.ensures.body c.bottom-bottom.ensures.value c.loop_end-end.ensures
    c.flows.ensures c.laws.ensures.lattice c.labelled-labelled.ensures.typed

pub returns-clause-not_counted : goal.returns-clause-not_counted
returns-clause-not_counted c =
    let q : LabelledProgram = c.args.typed.now.labelled in
    let same : c.labelled-labelled.result.now ≡ q = c.labelled-labelled.ensures.labelled in
    let program : c.program-program.result.now ≡ q.program = c.program-program.ensures.program ∙ ap (λ (z : LabelledProgram). z.program) same in
    let labels : c.labels.result.now ≡ q.labels = c.labels.ensures ∙ ap (λ (z : LabelledProgram). z.labels) same in
    not_counted q c.program-program.result.now c.lattice-order.result.now c.labels.result.now c.body.result.now c.bottom-bottom.result c.loop_end-end.result
    c.args.observer.number c.flows.result program c.lattice-order.ensures labels c.body.ensures.body c.bottom-bottom.ensures.value c.loop_end-end.ensures
    c.flows.ensures c.laws.ensures.lattice

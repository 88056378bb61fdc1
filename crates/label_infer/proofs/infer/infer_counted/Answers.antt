use Rattle.std.proofs.Common.{◌≡◌}
use Rattle.timing_types.specs.Labelled.{LabelledProgram}
use Rattle.label_infer.specs.Least.{Labels, IsLeast, TypesMost}
use Rattle.label_infer.proofs.Inferred.{if_all, is_least, types}
use Rattle.label_infer.proofs.infer.infer_counted.Goals as goal

pub returns-clause-least : goal.returns-clause-least
returns-clause-least g c =
    let p = c.args.p in
    let v = c.into_labels-variables.result in
    if_all c.complete.result (λ (q : LabelledProgram). q.labels.variables ≡ v.0.items) (λ q. q.labels.levels ≡ v.1.items)
    (λ q. Labels p q.labels) (λ q. IsLeast p q.labels)
    (λ q a b d. is_least p c.settle.ensures.valid c.settle.new.work c.settle.ensures.work c.settle.ensures.done v.0.items v.1.items
    c.into_labels-variables.ensures.variables c.into_labels-variables.ensures.levels q.labels a b d)
    c.complete.ensures.variables c.complete.ensures.levels c.complete.ensures.labels

pub returns-clause-types : goal.returns-clause-types
returns-clause-types g c =
    let p = c.args.p in
    let v = c.into_labels-variables.result in
    if_all c.complete.result (λ (q : LabelledProgram). q.labels.variables ≡ v.0.items) (λ q. q.labels.levels ≡ v.1.items)
    (λ q. Labels p q.labels) (λ q. TypesMost p q.labels)
    (λ q a b d. types p c.settle.ensures.valid c.settle.new.work c.settle.ensures.work c.settle.ensures.done v.0.items v.1.items
    c.into_labels-variables.ensures.variables c.into_labels-variables.ensures.levels q.labels a b d)
    c.complete.ensures.variables c.complete.ensures.levels c.complete.ensures.labels

use Rattle.std.proofs.Common.{sym, ap, ◌∙◌, subst}
use Rattle.label_lattice.specs.Order.{lattice_of}
use Rattle.mit_syntax.specs.Program.{plan_of}
use Rattle.timing_types.specs.Labelling.{label_at}
use Rattle.timing_types.specs.Labelled.{LabelledProgram}
use Rattle.label_infer.specs.Least.{Labels, IsLeast}
use Rattle.label_infer.specs.Given.{own_pairs}
use Rattle.label_infer.proofs.Completed.{labels_from, least_written}
use Rattle.label_infer.proofs.complete.complete.Goals as goal

pub of-requires : goal.of-requires
of-requires c =
    let p = c.args.p in
    let is = c.in-Ok.ensures.pairs ∙ ap (λ z. own_pairs (lattice_of p.order) (label_at p.order.bottom z) (plan_of p) p.order.bottom) c.deref.ensures.value in
    (labels_from p c.in-Ok.ensures.valid c.args.variables.items c.args.levels.items c.in-Ok.commands.items c.requires.variables c.requires.levels is).keeps

pub returns-in-Ok-clause-labels : goal.returns-in-Ok-clause-labels
returns-in-Ok-clause-labels c =
    let p = c.args.p in
    let is = c.in-Ok.ensures.pairs ∙ ap (λ z. own_pairs (lattice_of p.order) (label_at p.order.bottom z) (plan_of p) p.order.bottom) c.deref.ensures.value in
    subst (λ (z : LabelledProgram). Labels p z.labels) (sym c.of.ensures)
    (labels_from p c.in-Ok.ensures.valid c.args.variables.items c.args.levels.items c.in-Ok.commands.items c.requires.variables c.requires.levels is)

pub returns-in-Ok-clause-least : goal.returns-in-Ok-clause-least
returns-in-Ok-clause-least c =
    let p = c.args.p in
    let is = c.in-Ok.ensures.pairs ∙ ap (λ z. own_pairs (lattice_of p.order) (label_at p.order.bottom z) (plan_of p) p.order.bottom) c.deref.ensures.value in
    λ w. subst (λ (z : LabelledProgram). IsLeast p z.labels) (sym c.of.ensures)
    (least_written p c.in-Ok.ensures.valid (record { variables = c.args.variables.items; commands = c.in-Ok.commands.items; levels = c.args.levels.items })
    (labels_from p c.in-Ok.ensures.valid c.args.variables.items c.args.levels.items c.in-Ok.commands.items c.requires.variables c.requires.levels is) w)

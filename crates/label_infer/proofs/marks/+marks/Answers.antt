use Rattle.label_lattice.specs.Order.{lattice_of}
use Rattle.mit_syntax.specs.Expression.{expression_of}
use Rattle.mit_syntax.specs.Plan.{Written, command_plan, list_plan}
use Rattle.timing_types.specs.Labelling.{label_at}
use Rattle.timing_types.proofs.Parts.{if_parts, while_parts, mitigate_parts}
use Rattle.label_infer.proofs.Pairs.{if_pairs, while_pairs, mitigate_pairs}
use Rattle.label_infer.proofs.marks.+marks.Goals as goal

pub command_pairs-returns-in_ok-list_pairs-in-If-2 : goal.command_pairs-returns-in_ok-list_pairs-in-If-2
command_pairs-returns-in_ok-list_pairs-in-If-2 t c =
    let w : Written = record { pos = c.args.c.now.pos; labels = c.args.c.now.labels } in
    let o = c.args.order.now in
    λ rest.
    let q = if_parts c.args.c.now.form c.in-If.guard c.in-If.then_part c.in-If.else_part c.deref.result.now c.deref-in-If.result.now c.in-If.is
    c.deref.ensures.value c.deref-in-If.ensures.value w rest in
    if_pairs (lattice_of o) (label_at o.bottom c.args.variables.now) w (expression_of c.in-If.guard) (command_plan c.args.c.now rest)
    (list_plan c.deref.result.now) (list_plan c.deref-in-If.result.now) rest
    c.args.pc.number c.label-in-If.result.number c.join-inner.result.number c.index_label-in-If.result.number
    c.join-here-in-If.result.number c.own_pair-in-If.result
    c.args.found.now.items c.push-in-If.new.self.items c.list_pairs.new.found.items c.list_pairs-in-If.new.found.items q
    c.label-in-If.ensures c.join-inner.ensures.value c.index_label-in-If.ensures c.join-here-in-If.ensures.value c.own_pair-in-If.ensures
    c.in_ok-push-in-If.ensures.items
    c.in_ok-list_pairs-in-If.ensures c.in_ok-list_pairs-in-If-2.ensures

pub command_pairs-returns-in_ok-list_pairs-in-While : goal.command_pairs-returns-in_ok-list_pairs-in-While
command_pairs-returns-in_ok-list_pairs-in-While t c =
    let w : Written = record { pos = c.args.c.now.pos; labels = c.args.c.now.labels } in
    let o = c.args.order.now in
    λ rest.
    let q = while_parts c.args.c.now.form c.in-While.guard c.in-While.body c.deref-in-While.result.now c.in-While.is c.deref-in-While.ensures.value w rest in
    while_pairs (lattice_of o) (label_at o.bottom c.args.variables.now) w (expression_of c.in-While.guard) (command_plan c.args.c.now rest)
    (list_plan c.deref-in-While.result.now) rest
    c.args.pc.number c.label-in-While.result.number c.join-inner-in-While.result.number c.index_label-in-While.result.number
    c.join-here-in-While.result.number c.own_pair-in-While.result
    c.args.found.now.items c.push-in-While.new.self.items c.list_pairs-in-While.new.found.items q
    c.label-in-While.ensures c.join-inner-in-While.ensures.value c.index_label-in-While.ensures c.join-here-in-While.ensures.value c.own_pair-in-While.ensures
    c.in_ok-push-in-While.ensures.items
    c.in_ok-list_pairs-in-While.ensures

pub command_pairs-returns-in_ok-list_pairs-in-Mitigate : goal.command_pairs-returns-in_ok-list_pairs-in-Mitigate
command_pairs-returns-in_ok-list_pairs-in-Mitigate t c =
    let w : Written = record { pos = c.args.c.now.pos; labels = c.args.c.now.labels } in
    let o = c.args.order.now in
    λ rest.
    let q = mitigate_parts c.args.c.now.form c.in-Mitigate.mark c.in-Mitigate.estimate c.in-Mitigate.level c.in-Mitigate.body c.deref-in-Mitigate.result.now
    c.in-Mitigate.is c.deref-in-Mitigate.ensures.value w rest in
    mitigate_pairs (lattice_of o) (label_at o.bottom c.args.variables.now) w c.in-Mitigate.mark c.in-Mitigate.level (expression_of c.in-Mitigate.estimate)
    (command_plan c.args.c.now rest) (list_plan c.deref-in-Mitigate.result.now) rest
    c.args.pc.number c.index_label-in-Mitigate.result.number c.join-here-in-Mitigate.result.number c.own_pair-in-Mitigate.result
    c.args.found.now.items c.push-in-Mitigate.new.self.items c.list_pairs-in-Mitigate.new.found.items q
    c.index_label-in-Mitigate.ensures c.join-here-in-Mitigate.ensures.value c.own_pair-in-Mitigate.ensures c.in_ok-push-in-Mitigate.ensures.items
    c.in_ok-list_pairs-in-Mitigate.ensures

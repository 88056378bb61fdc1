use Rattle.label_lattice.specs.Order.{lattice_of}
use Rattle.mit_syntax.specs.Expression.{expression_of}
use Rattle.mit_syntax.specs.Plan.{Written, command_plan, list_plan}
use Rattle.timing_types.specs.Labelling.{variable_of}
use Rattle.timing_types.proofs.Parts.{if_parts, while_parts, mitigate_parts}
use Rattle.timing_types.proofs.Guards.{if_contexts, while_contexts, mitigate_contexts}
use Rattle.timing_types.proofs.contexts.+contexts.Goals as goal

pub command_contexts-returns-in_ok-list_contexts-in-If-2 : goal.command_contexts-returns-in_ok-list_contexts-in-If-2
command_contexts-returns-in_ok-list_contexts-in-If-2 t c =
    let w : Written = record { pos = c.args.c.now.pos; labels = c.args.c.now.labels } in
    let o = c.args.order.now in
    let p = c.args.p.now in
    λ rest.
    let q = if_parts c.args.c.now.form c.in-If.guard c.in-If.then_part c.in-If.else_part c.deref.result.now c.deref-in-If.result.now c.in-If.is
    c.deref.ensures.value c.deref-in-If.ensures.value w rest in
    if_contexts (lattice_of o) (variable_of o p) w (expression_of c.in-If.guard) (command_plan c.args.c.now rest) (list_plan c.deref.result.now)
    (list_plan c.deref-in-If.result.now) rest c.args.pc.number c.label.result.number c.join-inner.result.number
    c.args.found.now.items c.list_contexts.new.found.items c.list_contexts-in-If.new.found.items q c.label.ensures c.join-inner.ensures.value
    c.in_ok-list_contexts-in-If.ensures c.in_ok-list_contexts-in-If-2.ensures

pub command_contexts-returns-in_ok-list_contexts-in-While : goal.command_contexts-returns-in_ok-list_contexts-in-While
command_contexts-returns-in_ok-list_contexts-in-While t c =
    let w : Written = record { pos = c.args.c.now.pos; labels = c.args.c.now.labels } in
    let o = c.args.order.now in
    let p = c.args.p.now in
    λ rest.
    let q = while_parts c.args.c.now.form c.in-While.guard c.in-While.body c.deref-in-While.result.now c.in-While.is c.deref-in-While.ensures.value w rest in
    while_contexts (lattice_of o) (variable_of o p) w (expression_of c.in-While.guard) (command_plan c.args.c.now rest) (list_plan c.deref-in-While.result.now)
    rest c.args.pc.number c.label-in-While.result.number c.join-inner-in-While.result.number
    c.args.found.now.items c.list_contexts-in-While.new.found.items q c.label-in-While.ensures c.join-inner-in-While.ensures.value
    c.in_ok-list_contexts-in-While.ensures

pub command_contexts-returns-in_ok-list_contexts-in-Mitigate : goal.command_contexts-returns-in_ok-list_contexts-in-Mitigate
command_contexts-returns-in_ok-list_contexts-in-Mitigate t c =
    let w : Written = record { pos = c.args.c.now.pos; labels = c.args.c.now.labels } in
    let o = c.args.order.now in
    let p = c.args.p.now in
    λ rest.
    let q = mitigate_parts c.args.c.now.form c.in-Mitigate.mark c.in-Mitigate.estimate c.in-Mitigate.level c.in-Mitigate.body c.deref-in-Mitigate.result.now
    c.in-Mitigate.is c.deref-in-Mitigate.ensures.value w rest in
    mitigate_contexts (lattice_of o) (variable_of o p) w c.in-Mitigate.mark c.in-Mitigate.level (expression_of c.in-Mitigate.estimate)
    (command_plan c.args.c.now rest) (list_plan c.deref-in-Mitigate.result.now) rest c.args.pc
    c.args.found.now.items c.push.new.self.items c.list_contexts-in-Mitigate.new.found.items q c.in_ok-push-in-Mitigate.ensures.items
    c.in_ok-list_contexts-in-Mitigate.ensures

use Rattle.mit_syntax.specs.Expression.{expression_of}
use Rattle.mit_syntax.specs.Plan.{Written, command_plan, list_plan}
use Rattle.timing_types.proofs.Parts.{if_parts, while_parts, mitigate_parts}
use Rattle.label_infer.proofs.Levels.{if_levels, while_levels, mitigate_levels}
use Rattle.label_infer.proofs.first.+levels.Goals as goal

pub command_levels-returns-in_ok-list_levels-in-If-2 : goal.command_levels-returns-in_ok-list_levels-in-If-2
command_levels-returns-in_ok-list_levels-in-If-2 t c =
    let w : Written = record { pos = c.args.c.now.pos; labels = c.args.c.now.labels } in
    λ rest.
    let q = if_parts c.args.c.now.form c.in-If.guard c.in-If.then_part c.in-If.else_part c.deref.result.now c.deref-in-If.result.now c.in-If.is
    c.deref.ensures.value c.deref-in-If.ensures.value w rest in
    if_levels c.args.bottom.number w (expression_of c.in-If.guard) (command_plan c.args.c.now rest) (list_plan c.deref.result.now)
    (list_plan c.deref-in-If.result.now) rest
    c.args.found.now.items c.list_levels.new.found.items c.list_levels-in-If.new.found.items q c.in_ok-list_levels-in-If.ensures
    c.in_ok-list_levels-in-If-2.ensures

pub command_levels-returns-in_ok-list_levels-in-While : goal.command_levels-returns-in_ok-list_levels-in-While
command_levels-returns-in_ok-list_levels-in-While t c =
    let w : Written = record { pos = c.args.c.now.pos; labels = c.args.c.now.labels } in
    λ rest.
    let q = while_parts c.args.c.now.form c.in-While.guard c.in-While.body c.deref-in-While.result.now c.in-While.is c.deref-in-While.ensures.value w rest in
    while_levels c.args.bottom.number w (expression_of c.in-While.guard) (command_plan c.args.c.now rest) (list_plan c.deref-in-While.result.now) rest
    c.args.found.now.items c.list_levels-in-While.new.found.items q c.in_ok-list_levels-in-While.ensures

pub command_levels-returns-in_ok-list_levels-in-Mitigate : goal.command_levels-returns-in_ok-list_levels-in-Mitigate
command_levels-returns-in_ok-list_levels-in-Mitigate t c =
    let w : Written = record { pos = c.args.c.now.pos; labels = c.args.c.now.labels } in
    λ rest.
    let q = mitigate_parts c.args.c.now.form c.in-Mitigate.mark c.in-Mitigate.estimate c.in-Mitigate.level c.in-Mitigate.body c.deref-in-Mitigate.result.now
    c.in-Mitigate.is c.deref-in-Mitigate.ensures.value w rest in
    mitigate_levels c.args.bottom.number w c.in-Mitigate.mark c.in-Mitigate.level (expression_of c.in-Mitigate.estimate) (command_plan c.args.c.now rest)
    (list_plan c.deref-in-Mitigate.result.now) rest
    c.first_label.result c.args.found.now.items c.push.new.self.items c.list_levels-in-Mitigate.new.found.items q c.first_label.ensures
    c.in_ok-push-in-Mitigate.ensures.items c.in_ok-list_levels-in-Mitigate.ensures

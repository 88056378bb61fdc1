use Rattle.std.proofs.Common.{rules, ◌+◌, ◌*◌, ◌<◌, refl, arith}
use Rattle.mit_syntax.specs.Expression.{expression_of}
use Rattle.mit_syntax.specs.Plan.{Written, list_plan, command_plan, form_count, count}
use Rattle.timing_types.proofs.Parts.{if_parts, while_parts, mitigate_parts, if_count, while_count, mitigate_count, cut_count, drop_count}
use Rattle.lab_steady.proofs.Owners.{if_then, if_jump, if_else, while_body, while_again, mitigate_body, mitigate_end}
use Rattle.lab_steady.proofs.owner.+owners.Goals as goal

pub command_owner-list_owner-requires : goal.command_owner-list_owner-requires
command_owner-list_owner-requires t c =
    let w : Written = record { pos = c.args.c.now.pos; labels = c.args.c.now.labels } in
    let n = if_count c.args.c.now.form c.in-If.guard c.in-If.then_part c.in-If.else_part c.deref.result.now c.in-If.else_part.items c.in-If.is
    c.deref.ensures.value refl w in
    let d = c.decreases in
    let smaller : 2 * count (list_plan c.deref.result.now) + 1 < 2 * form_count c.args.c.now.form w = omega arith in
    let h = c.in-After.ensures in
    let at = h.0 in
    let le = h.1 in
    (search rules, omega (arith, at, le))

pub command_owner-returns-in-At : goal.command_owner-returns-in-At
command_owner-returns-in-At t c =
    let w : Written = record { pos = c.args.c.now.pos; labels = c.args.c.now.labels } in
    if_then (λ rest. command_plan c.args.c.now rest) w (expression_of c.in-If.guard) c.args.at c.args.place (list_plan c.deref.result.now)
    (list_plan c.in-If.else_part.items)
    (if_parts c.args.c.now.form c.in-If.guard c.in-If.then_part c.in-If.else_part c.deref.result.now c.in-If.else_part.items c.in-If.is
    c.deref.ensures.value refl w)
    c.in-After.chosen c.in-At.pos c.in-After.ensures c.in-At.ensures

pub command_owner-returns-in_default-one : goal.command_owner-returns-in_default-one
command_owner-returns-in_default-one t c =
    let w : Written = record { pos = c.args.c.now.pos; labels = c.args.c.now.labels } in
    if_jump (λ rest. command_plan c.args.c.now rest) w (expression_of c.in-If.guard) c.args.at c.args.place (list_plan c.deref.result.now)
    (list_plan c.in-If.else_part.items)
    (if_parts c.args.c.now.form c.in-If.guard c.in-If.then_part c.in-If.else_part c.deref.result.now c.in-If.else_part.items c.in-If.is
    c.deref.ensures.value refl w)
    c.in-After.chosen c.in-After-list_owner.jump c.in-After.ensures c.in-After-list_owner.ensures c.in_default-one.field-0 c.args.c.now.pos
    c.in_default-one.ensures refl

pub command_owner-list_owner-requires-in-If : goal.command_owner-list_owner-requires-in-If
command_owner-list_owner-requires-in-If t c =
    let w : Written = record { pos = c.args.c.now.pos; labels = c.args.c.now.labels } in
    let n = if_count c.args.c.now.form c.in-If.guard c.in-If.then_part c.in-If.else_part c.deref.result.now c.deref-in-If.result.now c.in-If.is
    c.deref.ensures.value c.deref-in-If.ensures.value w in
    let d = c.decreases in
    let smaller : 2 * count (list_plan c.deref-in-If.result.now) + 1 < 2 * form_count c.args.c.now.form w = omega arith in
    let h = c.in-After-one.ensures in
    let at = h.0 in
    let le = h.1 in
    (search rules, omega (arith, at, le))

pub command_owner-list_owner-requires-in-While : goal.command_owner-list_owner-requires-in-While
command_owner-list_owner-requires-in-While t c =
    let w : Written = record { pos = c.args.c.now.pos; labels = c.args.c.now.labels } in
    let n = while_count c.args.c.now.form c.in-While.guard c.in-While.body c.deref-in-While.result.now c.in-While.is c.deref-in-While.ensures.value w in
    let d = c.decreases in
    let smaller : 2 * count (list_plan c.deref-in-While.result.now) + 1 < 2 * form_count c.args.c.now.form w = omega arith in
    let h = c.in-After-tested.ensures in
    let at = h.0 in
    let le = h.1 in
    (search rules, omega (arith, at, le))

pub command_owner-list_owner-requires-in-Mitigate : goal.command_owner-list_owner-requires-in-Mitigate
command_owner-list_owner-requires-in-Mitigate t c =
    let w : Written = record { pos = c.args.c.now.pos; labels = c.args.c.now.labels } in
    let n = mitigate_count c.args.c.now.form c.in-Mitigate.mark c.in-Mitigate.estimate c.in-Mitigate.level c.in-Mitigate.body c.deref-in-Mitigate.result.now
    c.in-Mitigate.is c.deref-in-Mitigate.ensures.value w in
    let d = c.decreases in
    let smaller : 2 * count (list_plan c.deref-in-Mitigate.result.now) + 1 < 2 * form_count c.args.c.now.form w = omega arith in
    let h = c.in-After-tested-2.ensures in
    let at = h.0 in
    let le = h.1 in
    (search rules, omega (arith, at, le))

pub command_owner-returns-in-After-one : goal.command_owner-returns-in-After-one
command_owner-returns-in-After-one t c =
    let w : Written = record { pos = c.args.c.now.pos; labels = c.args.c.now.labels } in
    if_else (λ rest. command_plan c.args.c.now rest) w (expression_of c.in-If.guard) c.args.at c.args.place (list_plan c.deref.result.now)
    (list_plan c.deref-in-If.result.now)
    (if_parts c.args.c.now.form c.in-If.guard c.in-If.then_part c.in-If.else_part c.deref.result.now c.deref-in-If.result.now c.in-If.is
    c.deref.ensures.value c.deref-in-If.ensures.value w)
    c.in-After.chosen c.in-After-list_owner.jump c.in-After.ensures c.in-After-list_owner.ensures c.in-After-one.other c.in-After-one.ensures
    c.list_owner-in-If.result c.list_owner-in-If.ensures

pub command_owner-returns-in-After-list_owner-2 : goal.command_owner-returns-in-After-list_owner-2
command_owner-returns-in-After-list_owner-2 t c =
    let w : Written = record { pos = c.args.c.now.pos; labels = c.args.c.now.labels } in
    while_again (λ rest. command_plan c.args.c.now rest) w (expression_of c.in-While.guard) c.args.at c.args.place (list_plan c.deref-in-While.result.now)
    (while_parts c.args.c.now.form c.in-While.guard c.in-While.body c.deref-in-While.result.now c.in-While.is c.deref-in-While.ensures.value w)
    c.in-After-tested.begin c.in-After-list_owner-2.again c.tested-in-After-list_owner-2.result c.in-After-tested.ensures c.in-After-list_owner-2.ensures
    c.tested-in-After-list_owner-2.ensures

pub command_owner-returns-in-At-list_owner : goal.command_owner-returns-in-At-list_owner
command_owner-returns-in-At-list_owner t c =
    let w : Written = record { pos = c.args.c.now.pos; labels = c.args.c.now.labels } in
    while_body (λ rest. command_plan c.args.c.now rest) w (expression_of c.in-While.guard) c.args.at c.args.place (list_plan c.deref-in-While.result.now)
    (while_parts c.args.c.now.form c.in-While.guard c.in-While.body c.deref-in-While.result.now c.in-While.is c.deref-in-While.ensures.value w)
    c.in-After-tested.begin c.in-At-list_owner.pos c.in-After-tested.ensures c.in-At-list_owner.ensures

pub command_owner-returns-in-After-list_owner-3 : goal.command_owner-returns-in-After-list_owner-3
command_owner-returns-in-After-list_owner-3 t c =
    let w : Written = record { pos = c.args.c.now.pos; labels = c.args.c.now.labels } in
    mitigate_end (λ rest. command_plan c.args.c.now rest) w (expression_of c.in-Mitigate.estimate) c.args.at c.args.place
    c.in-Mitigate.mark c.in-Mitigate.level (list_plan c.deref-in-Mitigate.result.now)
    (mitigate_parts c.args.c.now.form c.in-Mitigate.mark c.in-Mitigate.estimate c.in-Mitigate.level c.in-Mitigate.body c.deref-in-Mitigate.result.now
    c.in-Mitigate.is c.deref-in-Mitigate.ensures.value w)
    c.in-After-tested-2.begin c.in-After-list_owner-3.end c.one-in-After-list_owner-3.result c.in-After-tested-2.ensures c.in-After-list_owner-3.ensures
    c.one-in-After-list_owner-3.ensures

pub command_owner-returns-in-At-list_owner-2 : goal.command_owner-returns-in-At-list_owner-2
command_owner-returns-in-At-list_owner-2 t c =
    let w : Written = record { pos = c.args.c.now.pos; labels = c.args.c.now.labels } in
    mitigate_body (λ rest. command_plan c.args.c.now rest) w (expression_of c.in-Mitigate.estimate) c.args.at c.args.place
    c.in-Mitigate.mark c.in-Mitigate.level (list_plan c.deref-in-Mitigate.result.now)
    (mitigate_parts c.args.c.now.form c.in-Mitigate.mark c.in-Mitigate.estimate c.in-Mitigate.level c.in-Mitigate.body c.deref-in-Mitigate.result.now
    c.in-Mitigate.is c.deref-in-Mitigate.ensures.value w)
    c.in-After-tested-2.begin c.in-At-list_owner-2.pos c.in-After-tested-2.ensures c.in-At-list_owner-2.ensures

pub list_owner-command_owner-requires : goal.list_owner-command_owner-requires
list_owner-command_owner-requires t c =
    let w : Written = record { pos = c.c-item.result.pos; labels = c.c-item.result.labels } in
    let d = c.decreases in
    let s = cut_count c.args.commands.now c.loop-c.c-index c.c-item.result c.loop-c-test.true c.c-item.is in
    let r = drop_count c.args.commands.now c.loop-c.c-index in
    let smaller : 2 * form_count c.c-item.result.form w < 2 * count (list_plan c.args.commands.now) + 1 = omega arith in
    (search rules, c.loop-c.invariant.before)

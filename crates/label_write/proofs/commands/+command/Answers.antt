use Rattle.std.proofs.Common.{rules, ◌+◌, ◌*◌, ◌<◌, ◌≤◌, refl, arith}
use Rattle.mit_syntax.specs.Todo.{Done}
use Rattle.mit_syntax.specs.Plan.{Written, list_plan, command_plan, count}
use Rattle.timing_types.proofs.Parts.{if_count, while_count, mitigate_count}
use Rattle.label_write.proofs.Lists.{count_within, next_fits, next_written, all_written}
use Rattle.label_write.proofs.Forms.{wrote_if, wrote_while, wrote_mitigate}
use Rattle.label_write.proofs.commands.+command.Goals as goal

pub write_form-overflow_add-next : goal.write_form-overflow_add-next
write_form-overflow_add-next t c = let r = c.requires in omega (arith, r)

pub write_form-write_list-requires : goal.write_form-write_list-requires
write_form-write_list-requires t c =
    let w : Written = record { pos = c.args.c.now.pos; labels = c.args.c.now.labels } in
    let n = if_count c.args.c.now.form c.in-If.guard c.in-If.then_part c.in-If.else_part c.deref.result.now c.in-If.else_part.items c.in-If.is
    c.deref.ensures.value refl w in
    let r = c.requires in
    let d = c.decreases in
    let smaller : 3 * count (list_plan c.deref.result.now) + 2 < 3 * count (command_plan c.args.c.now Done) = omega arith in
    (search rules, omega arith)

pub write_form-write_list-requires-in-If : goal.write_form-write_list-requires-in-If
write_form-write_list-requires-in-If t c =
    let w : Written = record { pos = c.args.c.now.pos; labels = c.args.c.now.labels } in
    let n = if_count c.args.c.now.form c.in-If.guard c.in-If.then_part c.in-If.else_part c.deref.result.now c.deref-in-If.result.now c.in-If.is
    c.deref.ensures.value c.deref-in-If.ensures.value w in
    let r = c.requires in
    let d = c.decreases in
    let m = c.in_ok-middle-in-If.ensures.number in
    let smaller : 3 * count (list_plan c.deref-in-If.result.now) + 2 < 3 * count (command_plan c.args.c.now Done) = omega arith in
    (search rules, omega arith)

pub write_form-write_list-requires-in-While : goal.write_form-write_list-requires-in-While
write_form-write_list-requires-in-While t c =
    let w : Written = record { pos = c.args.c.now.pos; labels = c.args.c.now.labels } in
    let n = while_count c.args.c.now.form c.in-While.guard c.in-While.body c.deref-in-While.result.now c.in-While.is c.deref-in-While.ensures.value w in
    let r = c.requires in
    let d = c.decreases in
    let smaller : 3 * count (list_plan c.deref-in-While.result.now) + 2 < 3 * count (command_plan c.args.c.now Done) = omega arith in
    (search rules, omega arith)

pub write_form-write_list-requires-in-Mitigate : goal.write_form-write_list-requires-in-Mitigate
write_form-write_list-requires-in-Mitigate t c =
    let w : Written = record { pos = c.args.c.now.pos; labels = c.args.c.now.labels } in
    let n = mitigate_count c.args.c.now.form c.in-Mitigate.mark c.in-Mitigate.estimate c.in-Mitigate.level c.in-Mitigate.body c.deref-in-Mitigate.result.now
    c.in-Mitigate.is c.deref-in-Mitigate.ensures.value w in
    let r = c.requires in
    let d = c.decreases in
    let smaller : 3 * count (list_plan c.deref-in-Mitigate.result.now) + 2 < 3 * count (command_plan c.args.c.now Done) = omega arith in
    (search rules, omega arith)

pub write_form-returns-in_ok-end-in-If-clause-number : goal.write_form-returns-in_ok-end-in-If-clause-number
write_form-returns-in_ok-end-in-If-clause-number t c =
    let w : Written = record { pos = c.args.c.now.pos; labels = c.args.c.now.labels } in
    let n = if_count c.args.c.now.form c.in-If.guard c.in-If.then_part c.in-If.else_part c.deref.result.now c.deref-in-If.result.now c.in-If.is
    c.deref.ensures.value c.deref-in-If.ensures.value w in
    let m = c.in_ok-middle-in-If.ensures.number in
    let e = c.in_ok-end-in-If.ensures.number in
    omega (arith, n, m, e)

pub write_form-returns-in_ok-end-in-If-clause-form : goal.write_form-returns-in_ok-end-in-If-clause-form
write_form-returns-in_ok-end-in-If-clause-form t c =
    let w : Written = record { pos = c.args.c.now.pos; labels = c.args.c.now.labels } in
    wrote_if c.args.order.now c.args.labels.now c.args.number c.args.c.now.form c.in-If.guard c.in_ok-guard-in-If.guard c.in_ok-guard-in-If.ensures
    c.in-If.then_part c.in-If.else_part c.in_ok-middle-in-If.then_part c.in_ok-end-in-If.else_part c.deref.result.now c.deref-in-If.result.now
    c.in_ok-middle-in-If.middle c.in_ok-end-in-If.end
    c.in-If.is c.deref.ensures.value c.deref-in-If.ensures.value c.in_ok-middle-in-If.ensures.number c.in_ok-end-in-If.ensures.number
    c.in_ok-middle-in-If.ensures.commands c.in_ok-end-in-If.ensures.commands w

pub write_form-returns-in_ok-end-in-While-clause-number : goal.write_form-returns-in_ok-end-in-While-clause-number
write_form-returns-in_ok-end-in-While-clause-number t c =
    let w : Written = record { pos = c.args.c.now.pos; labels = c.args.c.now.labels } in
    let n = while_count c.args.c.now.form c.in-While.guard c.in-While.body c.deref-in-While.result.now c.in-While.is c.deref-in-While.ensures.value w in
    let e = c.in_ok-end-in-While.ensures.number in
    omega (arith, n, e)

pub write_form-returns-in_ok-end-in-While-clause-form : goal.write_form-returns-in_ok-end-in-While-clause-form
write_form-returns-in_ok-end-in-While-clause-form t c =
    let w : Written = record { pos = c.args.c.now.pos; labels = c.args.c.now.labels } in
    wrote_while c.args.order.now c.args.labels.now c.args.number c.args.c.now.form c.in-While.guard c.in_ok-guard-in-While.guard c.in_ok-guard-in-While.ensures
    c.in-While.body c.in_ok-end-in-While.body c.deref-in-While.result.now c.in_ok-end-in-While.end c.in-While.is c.deref-in-While.ensures.value
    c.in_ok-end-in-While.ensures.number c.in_ok-end-in-While.ensures.commands w

pub write_form-returns-in_ok-end-in-Mitigate-clause-number : goal.write_form-returns-in_ok-end-in-Mitigate-clause-number
write_form-returns-in_ok-end-in-Mitigate-clause-number t c =
    let w : Written = record { pos = c.args.c.now.pos; labels = c.args.c.now.labels } in
    let n = mitigate_count c.args.c.now.form c.in-Mitigate.mark c.in-Mitigate.estimate c.in-Mitigate.level c.in-Mitigate.body c.deref-in-Mitigate.result.now
    c.in-Mitigate.is c.deref-in-Mitigate.ensures.value w in
    let e = c.in_ok-end-in-Mitigate.ensures.number in
    omega (arith, n, e)

pub write_form-returns-in_ok-end-in-Mitigate-clause-form : goal.write_form-returns-in_ok-end-in-Mitigate-clause-form
write_form-returns-in_ok-end-in-Mitigate-clause-form t c =
    let w : Written = record { pos = c.args.c.now.pos; labels = c.args.c.now.labels } in
    wrote_mitigate c.args.order.now c.args.labels.now c.args.number c.args.c.now.form c.in-Mitigate.estimate c.in_ok-estimate-in-Mitigate.estimate
    c.in_ok-estimate-in-Mitigate.ensures
    c.in-Mitigate.mark c.in-Mitigate.level c.level.result c.in-Mitigate.body c.in_ok-end-in-Mitigate.body c.deref-in-Mitigate.result.now
    c.in_ok-end-in-Mitigate.end c.in-Mitigate.is c.deref-in-Mitigate.ensures.value
    c.in_ok-end-in-Mitigate.ensures.number c.level.ensures c.in_ok-end-in-Mitigate.ensures.commands w

pub write_list-write_command-requires : goal.write_list-write_command-requires
write_list-write_command-requires t c =
    let o = c.args.order.now in
    let l = c.args.labels.now in
    let r = c.requires in
    let d = c.decreases in
    let one : count (command_plan c.c-item.result Done) ≤ count (list_plan c.args.commands.now) =
    count_within c.args.commands.now c.c-item.result c.loop-c.c-index c.loop-c-test.true c.c-item.is in
    let all = next_fits o l c.args.commands.now c.args.number c.c-item.result c.loop-c.c-index c.loop-c.next c.loop-c.written.items c.loop-c-test.true
    c.c-item.is c.loop-c.invariant in
    let smaller : 3 * count (command_plan c.c-item.result Done) + 1 < 3 * count (list_plan c.args.commands.now) + 2 = omega (arith, one) in
    (search rules, omega (arith, all, r))

pub write_list-loop-c-preserved : goal.write_list-loop-c-preserved
write_list-loop-c-preserved t c =
    next_written c.args.order.now c.args.labels.now c.args.commands.now c.args.number c.c-item.result c.loop-c.c-index c.loop-c.next c.loop-c.written.items
    c.loop-c-test.true c.c-item.is c.loop-c.invariant c.in_ok-after.command c.in_ok-after.after c.push.new.self.items c.in_ok-push.ensures.items
    c.in_ok-after.ensures.number c.in_ok-after.ensures.command

pub write_list-returns-clause-commands : goal.write_list-returns-clause-commands
write_list-returns-clause-commands t c =
    all_written c.args.order.now c.args.labels.now c.args.commands.now c.args.number c.loop-c.c-index c.loop-c.next c.loop-c.written.items
    c.loop-c-test.false c.loop-c.invariant

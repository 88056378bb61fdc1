use Rattle.std.proofs.Common.{rules, ◌+◌, ◌*◌, ◌<◌, drop, refl, sym, ap, ◌∙◌, arith}
use Rattle.label_lattice.specs.Order.{lattice_of}
use Rattle.mit_syntax.specs.Expression.{expression_of}
use Rattle.mit_syntax.specs.Plan.{Written, list_plan, command_plan, form_count, count}
use Rattle.timing_types.specs.Labelling.{variable_of, marks_of, level_of, end_of}
use Rattle.timing_types.proofs.Parts.{if_parts, while_parts, mitigate_parts, if_count, while_count, mitigate_count, cut, cut_count, drop_count}
use Rattle.timing_types.proofs.Steps.{if_ends, while_ends, mitigate_ends}
use Rattle.timing_types.proofs.ends.+ends.Goals as goal

pub list_end-command_end-part-requires : goal.list_end-command_end-part-requires
list_end-command_end-part-requires t c =
    let i = c.loop-c.invariant.count in
    let r = c.requires in
    let w = c.decreases in
    let d = cut_count c.args.commands.now c.loop-c.c-index c.c-item.result c.loop-c-test.true c.c-item.is in
    let all = drop_count c.args.commands.now c.loop-c.c-index in
    let smaller : 2 * form_count c.c-item.result.form (record { pos = c.c-item.result.pos; labels = c.c-item.result.labels }) < 2 * count
    (list_plan c.args.commands.now) + 1 = omega arith in
    (search rules, omega arith)

pub command_end-list_end-one-requires : goal.command_end-list_end-one-requires
command_end-list_end-one-requires t c =
    let w : Written = record { pos = c.args.c.now.pos; labels = c.args.c.now.labels } in
    let n = if_count c.args.c.now.form c.in-If.guard c.in-If.then_part c.in-If.else_part c.deref.result.now c.in-If.else_part.items c.in-If.is
    c.deref.ensures.value refl w in
    let r = c.requires in
    let d = c.decreases in
    let smaller : 2 * count (list_plan c.deref.result.now) + 1 < 2 * form_count c.args.c.now.form w = omega arith in
    (search rules, omega arith)

pub command_end-list_end-other-requires : goal.command_end-list_end-other-requires
command_end-list_end-other-requires t c =
    let w : Written = record { pos = c.args.c.now.pos; labels = c.args.c.now.labels } in
    let n = if_count c.args.c.now.form c.in-If.guard c.in-If.then_part c.in-If.else_part c.deref.result.now c.deref-in-If.result.now c.in-If.is
    c.deref.ensures.value c.deref-in-If.ensures.value w in
    let r = c.requires in
    let d = c.decreases in
    let m = c.list_end-one.ensures.number in
    let smaller : 2 * count (list_plan c.deref-in-If.result.now) + 1 < 2 * form_count c.args.c.now.form w = omega arith in
    (search rules, omega arith)

pub command_end-list_end-requires : goal.command_end-list_end-requires
command_end-list_end-requires t c =
    let w : Written = record { pos = c.args.c.now.pos; labels = c.args.c.now.labels } in
    let n = while_count c.args.c.now.form c.in-While.guard c.in-While.body c.deref-in-While.result.now c.in-While.is c.deref-in-While.ensures.value w in
    let r = c.requires in
    let d = c.decreases in
    let smaller : 2 * count (list_plan c.deref-in-While.result.now) + 1 < 2 * form_count c.args.c.now.form w = omega arith in
    (search rules, omega arith)

pub command_end-list_end-part-requires : goal.command_end-list_end-part-requires
command_end-list_end-part-requires t c =
    let w : Written = record { pos = c.args.c.now.pos; labels = c.args.c.now.labels } in
    let n = mitigate_count c.args.c.now.form c.in-Mitigate.mark c.in-Mitigate.estimate c.in-Mitigate.level c.in-Mitigate.body c.deref-in-Mitigate.result.now
    c.in-Mitigate.is c.deref-in-Mitigate.ensures.value w in
    let r = c.requires in
    let d = c.decreases in
    let smaller : 2 * count (list_plan c.deref-in-Mitigate.result.now) + 1 < 2 * form_count c.args.c.now.form w = omega arith in
    (search rules, omega arith)

pub command_end-returns-in-If-clause-number : goal.command_end-returns-in-If-clause-number
command_end-returns-in-If-clause-number t c =
    let w : Written = record { pos = c.args.c.now.pos; labels = c.args.c.now.labels } in
    let n = if_count c.args.c.now.form c.in-If.guard c.in-If.then_part c.in-If.else_part c.deref.result.now c.deref-in-If.result.now c.in-If.is
    c.deref.ensures.value c.deref-in-If.ensures.value w in
    let a = c.list_end-one.ensures.number in
    let b = c.list_end-other.ensures.number in
    omega arith

pub command_end-returns-in-While-clause-number : goal.command_end-returns-in-While-clause-number
command_end-returns-in-While-clause-number t c =
    let w : Written = record { pos = c.args.c.now.pos; labels = c.args.c.now.labels } in
    let n = while_count c.args.c.now.form c.in-While.guard c.in-While.body c.deref-in-While.result.now c.in-While.is c.deref-in-While.ensures.value w in
    let a = c.list_end.ensures.number in
    omega arith

pub command_end-returns-in-Mitigate-clause-number : goal.command_end-returns-in-Mitigate-clause-number
command_end-returns-in-Mitigate-clause-number t c =
    let w : Written = record { pos = c.args.c.now.pos; labels = c.args.c.now.labels } in
    let n = mitigate_count c.args.c.now.form c.in-Mitigate.mark c.in-Mitigate.estimate c.in-Mitigate.level c.in-Mitigate.body c.deref-in-Mitigate.result.now
    c.in-Mitigate.is c.deref-in-Mitigate.ensures.value w in
    let a = c.list_end-part.ensures.number in
    omega arith

pub command_end-returns-in-If-clause-end : goal.command_end-returns-in-If-clause-end
command_end-returns-in-If-clause-end t c =
    let w : Written = record { pos = c.args.c.now.pos; labels = c.args.c.now.labels } in
    let o = c.args.order.now in
    let p = c.args.p.now in
    let lat = lattice_of o in
    λ rest.
    let q = if_parts c.args.c.now.form c.in-If.guard c.in-If.then_part c.in-If.else_part c.deref.result.now c.deref-in-If.result.now c.in-If.is
    c.deref.ensures.value c.deref-in-If.ensures.value w rest in
    if_ends lat (variable_of o p) (marks_of o p) (level_of o p) w (expression_of c.in-If.guard) c.args.number c.args.pc.number c.args.t.number
    c.label-le.result.number c.command-own.result.0.number
    c.label-le.ensures c.command-own.ensures.er (command_plan c.args.c.now rest) (list_plan c.deref.result.now) (list_plan c.deref-in-If.result.now) rest
    c.list_end-one.result.0 c.list_end-other.result.0 c.join-inner.result.number c.join3-start.result.number c.list_end-one.result.1.number
    c.list_end-other.result.1.number c.join-in-If.result.number
    q c.join-inner.ensures.value c.join3-start.ensures c.list_end-one.ensures.number c.list_end-other.ensures.number c.list_end-one.ensures.end
    c.list_end-other.ensures.end c.join-in-If.ensures.value

pub command_end-returns-in-While-clause-end : goal.command_end-returns-in-While-clause-end
command_end-returns-in-While-clause-end t c =
    let w : Written = record { pos = c.args.c.now.pos; labels = c.args.c.now.labels } in
    let o = c.args.order.now in
    let p = c.args.p.now in
    let lat = lattice_of o in
    λ rest.
    let q = while_parts c.args.c.now.form c.in-While.guard c.in-While.body c.deref-in-While.result.now c.in-While.is c.deref-in-While.ensures.value w rest in
    while_ends lat (variable_of o p) (marks_of o p) (level_of o p) w (expression_of c.in-While.guard) c.args.number c.args.pc.number c.args.t.number
    c.label-le-in-While.result.number c.command-own.result.0.number
    c.label-le-in-While.ensures c.command-own.ensures.er (command_plan c.args.c.now rest) (list_plan c.deref-in-While.result.now) rest
    c.list_end.result.0 c.join-in-While.result.number c.join3-start-in-While.result.number c.list_end.result.1.number
    q c.join-in-While.ensures.value c.join3-start-in-While.ensures c.list_end.ensures.number c.list_end.ensures.end

pub command_end-returns-in-Mitigate-clause-end : goal.command_end-returns-in-Mitigate-clause-end
command_end-returns-in-Mitigate-clause-end t c =
    let w : Written = record { pos = c.args.c.now.pos; labels = c.args.c.now.labels } in
    let o = c.args.order.now in
    let p = c.args.p.now in
    let lat = lattice_of o in
    λ rest.
    let q = mitigate_parts c.args.c.now.form c.in-Mitigate.mark c.in-Mitigate.estimate c.in-Mitigate.level c.in-Mitigate.body c.deref-in-Mitigate.result.now
    c.in-Mitigate.is c.deref-in-Mitigate.ensures.value w rest in
    mitigate_ends lat (variable_of o p) (marks_of o p) (level_of o p) w (expression_of c.in-Mitigate.estimate) c.args.number c.args.pc.number c.args.t.number
    c.label-in-Mitigate.result.number c.command-own.result.0.number
    c.label-in-Mitigate.ensures c.command-own.ensures.er (command_plan c.args.c.now rest) (list_plan c.deref-in-Mitigate.result.now) rest
    c.in-Mitigate.mark c.list_end-part.result.0 c.join3-start-in-Mitigate.result.number c.in-Mitigate.level
    q c.join3-start-in-Mitigate.ensures c.list_end-part.ensures.number

pub list_end-loop-c-preserved : goal.list_end-loop-c-preserved
list_end-loop-c-preserved t c =
    let cs = c.args.commands.now in
    let j = c.loop-c.c-index in
    let u = cut cs j c.c-item.result c.loop-c-test.true c.c-item.is in
    let n = cut_count cs j c.c-item.result c.loop-c-test.true c.c-item.is in
    let i = c.loop-c.invariant.count in
    let k = c.command_end-part.ensures.number in
    record {
      count = omega (arith, n, i, k);
      end =
          sym (c.command_end-part.ensures.end (list_plan (drop (j + 1) cs)))
          ∙ sym (ap (λ z. end_of c.args.order.now c.args.p.now (list_plan z) c.loop-c.next c.args.pc.number c.loop-c.end.number) u) ∙ c.loop-c.invariant.end;
    }

use Rattle.std.proofs.Common.{rules, ◌+◌, ◌*◌, ◌<◌, drop, refl, sym, ap, ◌∙◌, arith}
use Rattle.std.proofs.lemmas.Result.{err_from_is_err_and}
use Rattle.label_lattice.specs.Order.{lattice_of}
use Rattle.mit_syntax.specs.Expression.{expression_of}
use Rattle.mit_syntax.specs.Todo.{Done}
use Rattle.mit_syntax.specs.Plan.{Written, list_plan, command_plan, form_count, count}
use Rattle.timing_types.specs.Walk.{walk_end, conditions, first_broken}
use Rattle.timing_types.specs.Labelling.{variable_of, marks_of, level_of, tree_of, end_of}
use Rattle.timing_types.proofs.Parts.{if_parts, while_parts, mitigate_parts, if_count, while_count, mitigate_count, cut, cut_count, drop_count}
use Rattle.timing_types.proofs.Walk.{walk_stays}
use Rattle.timing_types.proofs.Stays.{stays_on, then_stays, else_stays, body_stays}
use Rattle.timing_types.proofs.Steps.{if_passes, if_broken_one, if_broken_other, while_passes, while_broken, mitigate_passes, mitigate_broken, mitigate_high}
use Rattle.timing_types.proofs.check.+walk.Goals as goal

pub list_walk-command_walk-requires : goal.list_walk-command_walk-requires
list_walk-command_walk-requires t c =
    let i = c.loop-c.invariant.count in
    let r = c.requires.number in
    let w = c.decreases in
    let d = cut_count c.args.commands.now c.loop-c.c-index c.c-item.result c.loop-c-test.true c.c-item.is in
    let all = drop_count c.args.commands.now c.loop-c.c-index in
    let smaller : 2 * form_count c.c-item.result.form (record { pos = c.c-item.result.pos; labels = c.c-item.result.labels }) < 2 * count
    (list_plan c.args.commands.now) + 1 = omega arith in
    let j = c.loop-c.c-index in
    let cs = c.args.commands.now in
    let u = cut cs j c.c-item.result c.loop-c-test.true c.c-item.is in
    let o = c.args.order.now in
    let p = c.args.p.now in
    let pc = c.args.pc.number in (
      search rules,
      (
        omega arith,
        λ h. (
          list_plan (drop (j + 1) cs),
          sym (ap (λ z. end_of o p (list_plan z) c.loop-c.next pc c.loop-c.end.number) u) ∙ c.loop-c.invariant.stays h,
        ),
      ),
    )

pub command_walk-list_walk-requires : goal.command_walk-list_walk-requires
command_walk-list_walk-requires t c =
    let w : Written = record { pos = c.args.c.now.pos; labels = c.args.c.now.labels } in
    let n = if_count c.args.c.now.form c.in-If.guard c.in-If.then_part c.in-If.else_part c.deref.result.now c.in-If.else_part.items c.in-If.is
    c.deref.ensures.value refl w in
    let r = c.requires.number in
    let d = c.decreases in
    let smaller : 2 * count (list_plan c.deref.result.now) + 1 < 2 * form_count c.args.c.now.form w = omega arith in
    let o = c.args.order.now in
    let p = c.args.p.now in
    let lat = lattice_of o in
    let i = c.args.number in
    let pc = c.args.pc.number in (
      search rules,
      (
        omega arith,
        λ h.
            let k = c.requires.stays h in
            let q = if_parts c.args.c.now.form c.in-If.guard c.in-If.then_part c.in-If.else_part c.deref.result.now c.in-If.else_part.items
            c.in-If.is c.deref.ensures.value refl w k.0 in
            then_stays lat c.laws.ensures.lattice (variable_of o p) (marks_of o p) (level_of o p) w (expression_of c.in-If.guard) i pc
            c.args.t.number c.label-le.result.number c.command-own.result.0.number c.label-le.ensures c.command-own.ensures.er (command_plan
            c.args.c.now k.0) (list_plan c.deref.result.now) (list_plan c.in-If.else_part.items) k.0 q k.1 (i + 1) c.join-inner.result.number
            c.join3-start.result.number refl c.join-inner.ensures.value c.join3-start.ensures,
      ),
    )

pub command_walk-list_walk-requires-in-If : goal.command_walk-list_walk-requires-in-If
command_walk-list_walk-requires-in-If t c =
    let w : Written = record { pos = c.args.c.now.pos; labels = c.args.c.now.labels } in
    let n = if_count c.args.c.now.form c.in-If.guard c.in-If.then_part c.in-If.else_part c.deref.result.now c.deref-in-If.result.now c.in-If.is
    c.deref.ensures.value c.deref-in-If.ensures.value w in
    let r = c.requires.number in
    let d = c.decreases in
    let m = c.in_ok-one-in-If.ensures.number in
    let smaller : 2 * count (list_plan c.deref-in-If.result.now) + 1 < 2 * form_count c.args.c.now.form w = omega arith in
    let o = c.args.order.now in
    let p = c.args.p.now in
    let lat = lattice_of o in
    let i = c.args.number in
    let pc = c.args.pc.number in (
      search rules,
      (
        omega arith,
        λ h.
            let k = c.requires.stays h in
            let q = if_parts c.args.c.now.form c.in-If.guard c.in-If.then_part c.in-If.else_part c.deref.result.now c.deref-in-If.result.now
            c.in-If.is c.deref.ensures.value c.deref-in-If.ensures.value w k.0 in
            else_stays lat c.laws.ensures.lattice (variable_of o p) (marks_of o p) (level_of o p) w (expression_of c.in-If.guard) i pc
            c.args.t.number c.label-le.result.number c.command-own.result.0.number c.label-le.ensures c.command-own.ensures.er (command_plan
            c.args.c.now k.0) (list_plan c.deref.result.now) (list_plan c.deref-in-If.result.now) k.0 q k.1 c.in_ok-one-in-If.one.0
            c.join-inner.result.number c.join3-start.result.number c.in_ok-one-in-If.ensures.number c.join-inner.ensures.value c.join3-start.ensures,
      ),
    )

pub command_walk-loop_end-stay-requires : goal.command_walk-loop_end-stay-requires
command_walk-loop_end-stay-requires t c =
    let w : Written = record { pos = c.args.c.now.pos; labels = c.args.c.now.labels } in
    let n = while_count c.args.c.now.form c.in-While.guard c.in-While.body c.deref-in-While.result.now c.in-While.is c.deref-in-While.ensures.value w in
    let r = c.requires.number in
    let d = c.decreases in
    let o = c.args.order.now in
    let p = c.args.p.now in
    let lat = lattice_of o in
    let i = c.args.number in
    let pc = c.args.pc.number in
    record {
      number = omega arith;
      stays = λ h.
          let k = c.requires.stays h in
          let q = while_parts c.args.c.now.form c.in-While.guard c.in-While.body c.deref-in-While.result.now c.in-While.is
          c.deref-in-While.ensures.value w k.0 in
          body_stays lat c.laws.ensures.lattice (variable_of o p) (marks_of o p) (level_of o p) w (expression_of c.in-While.guard) i pc
          c.args.t.number c.label-le-in-While.result.number c.command-own.result.0.number c.label-le-in-While.ensures c.command-own.ensures.er
          (command_plan c.args.c.now k.0) (list_plan c.deref-in-While.result.now) k.0 q k.1 (i + 1) c.join-inner-in-While.result.number
          c.join3-start-in-While.result.number refl c.join-inner-in-While.ensures.value c.join3-start-in-While.ensures;
    }

pub command_walk-list_walk-requires-in-While : goal.command_walk-list_walk-requires-in-While
command_walk-list_walk-requires-in-While t c =
    let w : Written = record { pos = c.args.c.now.pos; labels = c.args.c.now.labels } in
    let n = while_count c.args.c.now.form c.in-While.guard c.in-While.body c.deref-in-While-2.result.now c.in-While.is c.deref-in-While-2.ensures.value w in
    let r = c.requires.number in
    let d = c.decreases in
    let smaller : 2 * count (list_plan c.deref-in-While-2.result.now) + 1 < 2 * form_count c.args.c.now.form w = omega arith in
    let o = c.args.order.now in
    let p = c.args.p.now in
    let lat = lattice_of o in
    let i = c.args.number in
    let pc = c.args.pc.number in (
      search rules,
      (
        omega arith,
        λ h.
            let inner = c.join-inner-in-While.result.number in
            let start = c.join3-start-in-While.result.number in
            let same = c.deref-in-While.ensures.value ∙ sym c.deref-in-While-2.ensures.value in
            let e = c.loop_end-stay.ensures ∙ ap (λ z. end_of o p (list_plan z) (i + 1) inner start) same in
            let body = tree_of o p (list_plan c.deref-in-While-2.result.now) (i + 1) in
            ap (λ z. end_of o p (list_plan c.deref-in-While-2.result.now) (i + 1) inner z) e
            ∙ walk_stays lat c.laws.ensures.lattice (variable_of o p) body inner start ∙ sym e,
      ),
    )

pub command_walk-list_walk-requires-in-Mitigate : goal.command_walk-list_walk-requires-in-Mitigate
command_walk-list_walk-requires-in-Mitigate t c =
    let w : Written = record { pos = c.args.c.now.pos; labels = c.args.c.now.labels } in
    let n = mitigate_count c.args.c.now.form c.in-Mitigate.mark c.in-Mitigate.estimate c.in-Mitigate.level c.in-Mitigate.body c.deref-in-Mitigate.result.now
    c.in-Mitigate.is c.deref-in-Mitigate.ensures.value w in
    let r = c.requires.number in
    let d = c.decreases in
    let smaller : 2 * count (list_plan c.deref-in-Mitigate.result.now) + 1 < 2 * form_count c.args.c.now.form w = omega arith in
    let o = c.args.order.now in
    let p = c.args.p.now in
    let lat = lattice_of o in
    let i = c.args.number in
    let pc = c.args.pc.number in
    (search rules, (omega arith, λ h. cc))

pub command_walk-returns-in_ok-other-in-If-clause-number : goal.command_walk-returns-in_ok-other-in-If-clause-number
command_walk-returns-in_ok-other-in-If-clause-number t c =
    let w : Written = record { pos = c.args.c.now.pos; labels = c.args.c.now.labels } in
    let n = if_count c.args.c.now.form c.in-If.guard c.in-If.then_part c.in-If.else_part c.deref.result.now c.deref-in-If.result.now c.in-If.is
    c.deref.ensures.value c.deref-in-If.ensures.value w in
    let a = c.in_ok-one-in-If.ensures.number in
    let b = c.in_ok-other-in-If.ensures.number in
    omega arith

pub command_walk-returns-in_ok-part-in-While-clause-number : goal.command_walk-returns-in_ok-part-in-While-clause-number
command_walk-returns-in_ok-part-in-While-clause-number t c =
    let w : Written = record { pos = c.args.c.now.pos; labels = c.args.c.now.labels } in
    let n = while_count c.args.c.now.form c.in-While.guard c.in-While.body c.deref-in-While-2.result.now c.in-While.is c.deref-in-While-2.ensures.value w in
    let a = c.in_ok-part-in-While.ensures.number in
    omega arith

pub command_walk-returns-in_ok-test-in-Mitigate-2-clause-number : goal.command_walk-returns-in_ok-test-in-Mitigate-2-clause-number
command_walk-returns-in_ok-test-in-Mitigate-2-clause-number t c =
    let w : Written = record { pos = c.args.c.now.pos; labels = c.args.c.now.labels } in
    let n = mitigate_count c.args.c.now.form c.in-Mitigate.mark c.in-Mitigate.estimate c.in-Mitigate.level c.in-Mitigate.body c.deref-in-Mitigate.result.now
    c.in-Mitigate.is c.deref-in-Mitigate.ensures.value w in
    let a = c.in_ok-part-in-Mitigate.ensures.number in
    omega arith

pub command_walk-returns-in_ok-other-in-If-clause-passes : goal.command_walk-returns-in_ok-other-in-If-clause-passes
command_walk-returns-in_ok-other-in-If-clause-passes t c =
    let w : Written = record { pos = c.args.c.now.pos; labels = c.args.c.now.labels } in
    let o = c.args.order.now in
    let p = c.args.p.now in
    let lat = lattice_of o in
    let i = c.args.number in
    let pc = c.args.pc.number in
    λ rest.
    let q = if_parts c.args.c.now.form c.in-If.guard c.in-If.then_part c.in-If.else_part c.deref.result.now c.deref-in-If.result.now c.in-If.is
    c.deref.ensures.value c.deref-in-If.ensures.value w rest in
    if_passes lat (variable_of o p) (marks_of o p) (level_of o p) w (expression_of c.in-If.guard) i pc c.args.t.number c.label-le.result.number
    c.command-own.result.0.number c.label-le.ensures c.command-own.ensures.er
    c.index_label-in-If.result.number c.command-own.result.1.number c.join-in-If.result.number c.index_label-in-If.ensures c.command-own.ensures.ew
    c.join-in-If.ensures.value c.in_ok-test-in-If.ensures.holds
    (command_plan c.args.c.now rest) (list_plan c.deref.result.now) (list_plan c.deref-in-If.result.now) rest c.in_ok-one-in-If.one.0
    c.join-inner.result.number c.join3-start.result.number
    q c.join-inner.ensures.value c.join3-start.ensures c.in_ok-other-in-If.other.0 c.in_ok-one-in-If.one.1.number
    c.in_ok-other-in-If.other.1.number c.join-in-If-2.result.number
    c.in_ok-one-in-If.ensures.number c.in_ok-other-in-If.ensures.number c.in_ok-one-in-If.ensures.passes
    c.in_ok-other-in-If.ensures.passes c.join-in-If-2.ensures.value

pub command_walk-returns-in_err-one-in-If-clause-refused : goal.command_walk-returns-in_err-one-in-If-clause-refused
command_walk-returns-in_err-one-in-If-clause-refused t c =
    let w : Written = record { pos = c.args.c.now.pos; labels = c.args.c.now.labels } in
    let o = c.args.order.now in
    let p = c.args.p.now in
    let lat = lattice_of o in
    let i = c.args.number in
    let pc = c.args.pc.number in
    let b = err_from_is_err_and c.from_residual-in_err-one-in-If.result c.from_residual-in_err-one-in-If.ensures.1 in
    rw (b.1, b.2) (λ rest.
    let q = if_parts c.args.c.now.form c.in-If.guard c.in-If.then_part c.in-If.else_part c.deref.result.now c.in-If.else_part.items c.in-If.is
    c.deref.ensures.value refl w rest in
    if_broken_one lat (variable_of o p) (marks_of o p) (level_of o p) w (expression_of c.in-If.guard) i pc c.args.t.number c.label-le.result.number
    c.command-own.result.0.number c.label-le.ensures c.command-own.ensures.er
    c.index_label-in-If.result.number c.command-own.result.1.number c.join-in-If.result.number c.index_label-in-If.ensures c.command-own.ensures.ew
    c.join-in-If.ensures.value c.in_ok-test-in-If.ensures.holds
    (command_plan c.args.c.now rest) (list_plan c.deref.result.now) (list_plan c.in-If.else_part.items) rest 0
    c.join-inner.result.number c.join3-start.result.number
    q c.join-inner.ensures.value c.join3-start.ensures c.in_err-one-in-If.field-0.0 c.in_err-one-in-If.ensures.refused)

pub command_walk-returns-in_err-other-in-If-clause-refused : goal.command_walk-returns-in_err-other-in-If-clause-refused
command_walk-returns-in_err-other-in-If-clause-refused t c =
    let w : Written = record { pos = c.args.c.now.pos; labels = c.args.c.now.labels } in
    let o = c.args.order.now in
    let p = c.args.p.now in
    let lat = lattice_of o in
    let i = c.args.number in
    let pc = c.args.pc.number in
    let b = err_from_is_err_and c.from_residual-in_err-other-in-If.result c.from_residual-in_err-other-in-If.ensures.1 in
    rw (b.1, b.2) (λ rest.
    let q = if_parts c.args.c.now.form c.in-If.guard c.in-If.then_part c.in-If.else_part c.deref.result.now c.deref-in-If.result.now c.in-If.is
    c.deref.ensures.value c.deref-in-If.ensures.value w rest in
    if_broken_other lat (variable_of o p) (marks_of o p) (level_of o p) w (expression_of c.in-If.guard) i pc c.args.t.number c.label-le.result.number
    c.command-own.result.0.number c.label-le.ensures c.command-own.ensures.er
    c.index_label-in-If.result.number c.command-own.result.1.number c.join-in-If.result.number c.index_label-in-If.ensures c.command-own.ensures.ew
    c.join-in-If.ensures.value c.in_ok-test-in-If.ensures.holds
    (command_plan c.args.c.now rest) (list_plan c.deref.result.now) (list_plan c.deref-in-If.result.now) rest c.in_ok-one-in-If.one.0
    c.join-inner.result.number c.join3-start.result.number
    q c.join-inner.ensures.value c.join3-start.ensures c.in_ok-one-in-If.one.1.number c.in_err-other-in-If.field-0.0 c.in_ok-one-in-If.ensures.number
    c.in_ok-one-in-If.ensures.passes c.in_err-other-in-If.ensures.refused)

pub command_walk-returns-in_ok-part-in-While-clause-passes : goal.command_walk-returns-in_ok-part-in-While-clause-passes
command_walk-returns-in_ok-part-in-While-clause-passes t c =
    let w : Written = record { pos = c.args.c.now.pos; labels = c.args.c.now.labels } in
    let o = c.args.order.now in
    let p = c.args.p.now in
    let lat = lattice_of o in
    let i = c.args.number in
    let pc = c.args.pc.number in
    let inner = c.join-inner-in-While.result.number in
    let start = c.join3-start-in-While.result.number in
    let same = c.deref-in-While.ensures.value ∙ sym c.deref-in-While-2.ensures.value in
    let stays = c.loop_end-stay.ensures ∙ ap (λ z. end_of o p (list_plan z) (i + 1) inner start) same in
    λ rest.
    let q = while_parts c.args.c.now.form c.in-While.guard c.in-While.body c.deref-in-While-2.result.now c.in-While.is
    c.deref-in-While-2.ensures.value w rest in
    while_passes lat (variable_of o p) (marks_of o p) (level_of o p) w (expression_of c.in-While.guard) i pc c.args.t.number c.label-le-in-While.result.number
    c.command-own.result.0.number c.label-le-in-While.ensures c.command-own.ensures.er
    c.index_label-in-While.result.number c.command-own.result.1.number c.join-in-While.result.number c.index_label-in-While.ensures c.command-own.ensures.ew
    c.join-in-While.ensures.value c.in_ok-test-in-While.ensures.holds
    (command_plan c.args.c.now rest) (list_plan c.deref-in-While-2.result.now) rest inner start c.loop_end-stay.result.number q
    c.join-inner-in-While.ensures.value
    c.join3-start-in-While.ensures stays
    c.in_ok-part-in-While.part.0 c.in_ok-part-in-While.part.1.number c.in_ok-part-in-While.ensures.number c.in_ok-part-in-While.ensures.passes

pub command_walk-returns-in_err-part-in-While-clause-refused : goal.command_walk-returns-in_err-part-in-While-clause-refused
command_walk-returns-in_err-part-in-While-clause-refused t c =
    let w : Written = record { pos = c.args.c.now.pos; labels = c.args.c.now.labels } in
    let o = c.args.order.now in
    let p = c.args.p.now in
    let lat = lattice_of o in
    let i = c.args.number in
    let pc = c.args.pc.number in
    let inner = c.join-inner-in-While.result.number in
    let start = c.join3-start-in-While.result.number in
    let same = c.deref-in-While.ensures.value ∙ sym c.deref-in-While-2.ensures.value in
    let stays = c.loop_end-stay.ensures ∙ ap (λ z. end_of o p (list_plan z) (i + 1) inner start) same in
    let b = err_from_is_err_and c.from_residual-in_err-part-in-While.result c.from_residual-in_err-part-in-While.ensures.1 in
    rw (b.1, b.2) (λ rest.
    let q = while_parts c.args.c.now.form c.in-While.guard c.in-While.body c.deref-in-While-2.result.now c.in-While.is
    c.deref-in-While-2.ensures.value w rest in
    while_broken lat (variable_of o p) (marks_of o p) (level_of o p) w (expression_of c.in-While.guard) i pc c.args.t.number c.label-le-in-While.result.number
    c.command-own.result.0.number c.label-le-in-While.ensures c.command-own.ensures.er
    c.index_label-in-While.result.number c.command-own.result.1.number c.join-in-While.result.number c.index_label-in-While.ensures c.command-own.ensures.ew
    c.join-in-While.ensures.value c.in_ok-test-in-While.ensures.holds
    (command_plan c.args.c.now rest) (list_plan c.deref-in-While-2.result.now) rest inner start c.loop_end-stay.result.number q
    c.join-inner-in-While.ensures.value
    c.join3-start-in-While.ensures stays
    c.in_err-part-in-While.field-0.0 c.in_err-part-in-While.ensures.refused)

pub command_walk-returns-in_ok-test-in-Mitigate-2-clause-passes : goal.command_walk-returns-in_ok-test-in-Mitigate-2-clause-passes
command_walk-returns-in_ok-test-in-Mitigate-2-clause-passes t c =
    let w : Written = record { pos = c.args.c.now.pos; labels = c.args.c.now.labels } in
    let o = c.args.order.now in
    let p = c.args.p.now in
    let lat = lattice_of o in
    let i = c.args.number in
    let pc = c.args.pc.number in
    λ rest.
    let q = mitigate_parts c.args.c.now.form c.in-Mitigate.mark c.in-Mitigate.estimate c.in-Mitigate.level c.in-Mitigate.body c.deref-in-Mitigate.result.now
    c.in-Mitigate.is c.deref-in-Mitigate.ensures.value w rest in
    mitigate_passes lat (variable_of o p) (marks_of o p) (level_of o p) w (expression_of c.in-Mitigate.estimate) i pc c.args.t.number
    c.label-in-Mitigate.result.number c.command-own.result.0.number c.label-in-Mitigate.ensures c.command-own.ensures.er
    c.index_label-in-Mitigate.result.number c.command-own.result.1.number c.join-in-Mitigate.result.number c.index_label-in-Mitigate.ensures
    c.command-own.ensures.ew c.join-in-Mitigate.ensures.value c.in_ok-test-in-Mitigate.ensures.holds
    (command_plan c.args.c.now rest) (list_plan c.deref-in-Mitigate.result.now) rest c.in-Mitigate.mark c.in-Mitigate.level
    c.join3-start-in-Mitigate.result.number q c.join3-start-in-Mitigate.ensures
    c.in_ok-part-in-Mitigate.part.0 c.in_ok-part-in-Mitigate.part.1.number c.level.result.number c.in_ok-part-in-Mitigate.ensures.number
    c.in_ok-part-in-Mitigate.ensures.passes c.level.ensures c.in_ok-test-in-Mitigate-2.ensures.holds

pub command_walk-returns-in_err-part-in-Mitigate-clause-refused : goal.command_walk-returns-in_err-part-in-Mitigate-clause-refused
command_walk-returns-in_err-part-in-Mitigate-clause-refused t c =
    let w : Written = record { pos = c.args.c.now.pos; labels = c.args.c.now.labels } in
    let o = c.args.order.now in
    let p = c.args.p.now in
    let lat = lattice_of o in
    let i = c.args.number in
    let pc = c.args.pc.number in
    let b = err_from_is_err_and c.from_residual-in_err-part-in-Mitigate.result c.from_residual-in_err-part-in-Mitigate.ensures.1 in
    rw (b.1, b.2) (λ rest.
    let q = mitigate_parts c.args.c.now.form c.in-Mitigate.mark c.in-Mitigate.estimate c.in-Mitigate.level c.in-Mitigate.body c.deref-in-Mitigate.result.now
    c.in-Mitigate.is c.deref-in-Mitigate.ensures.value w rest in
    mitigate_broken lat (variable_of o p) (marks_of o p) (level_of o p) w (expression_of c.in-Mitigate.estimate) i pc c.args.t.number
    c.label-in-Mitigate.result.number c.command-own.result.0.number c.label-in-Mitigate.ensures c.command-own.ensures.er
    c.index_label-in-Mitigate.result.number c.command-own.result.1.number c.join-in-Mitigate.result.number c.index_label-in-Mitigate.ensures
    c.command-own.ensures.ew c.join-in-Mitigate.ensures.value c.in_ok-test-in-Mitigate.ensures.holds
    (command_plan c.args.c.now rest) (list_plan c.deref-in-Mitigate.result.now) rest c.in-Mitigate.mark c.in-Mitigate.level
    c.join3-start-in-Mitigate.result.number q c.join3-start-in-Mitigate.ensures
    c.in_err-part-in-Mitigate.field-0.0 c.in_err-part-in-Mitigate.ensures.refused)

pub command_walk-returns-in_err-test-in-Mitigate-2-clause-refused : goal.command_walk-returns-in_err-test-in-Mitigate-2-clause-refused
command_walk-returns-in_err-test-in-Mitigate-2-clause-refused t c =
    let w : Written = record { pos = c.args.c.now.pos; labels = c.args.c.now.labels } in
    let o = c.args.order.now in
    let p = c.args.p.now in
    let lat = lattice_of o in
    let i = c.args.number in
    let pc = c.args.pc.number in
    let b = err_from_is_err_and c.from_residual-in_err-test-in-Mitigate-2.result c.from_residual-in_err-test-in-Mitigate-2.ensures.1 in
    rw (b.1, b.2) (λ rest.
    let q = mitigate_parts c.args.c.now.form c.in-Mitigate.mark c.in-Mitigate.estimate c.in-Mitigate.level c.in-Mitigate.body c.deref-in-Mitigate.result.now
    c.in-Mitigate.is c.deref-in-Mitigate.ensures.value w rest in
    mitigate_high lat (variable_of o p) (marks_of o p) (level_of o p) w (expression_of c.in-Mitigate.estimate) i pc c.args.t.number
    c.label-in-Mitigate.result.number c.command-own.result.0.number c.label-in-Mitigate.ensures c.command-own.ensures.er
    c.index_label-in-Mitigate.result.number c.command-own.result.1.number c.join-in-Mitigate.result.number c.index_label-in-Mitigate.ensures
    c.command-own.ensures.ew c.join-in-Mitigate.ensures.value c.in_ok-test-in-Mitigate.ensures.holds
    (command_plan c.args.c.now rest) (list_plan c.deref-in-Mitigate.result.now) rest c.in-Mitigate.mark c.in-Mitigate.level
    c.join3-start-in-Mitigate.result.number q c.join3-start-in-Mitigate.ensures
    c.in_ok-part-in-Mitigate.part.1.number c.level.result.number c.in_err-test-in-Mitigate-2.field-0.0 c.in_ok-part-in-Mitigate.ensures.passes c.level.ensures
    c.in_err-test-in-Mitigate-2.ensures.broken.1 c.in_err-test-in-Mitigate-2.ensures.broken.0)

pub list_walk-loop-c-preserved : goal.list_walk-loop-c-preserved
list_walk-loop-c-preserved t c =
    let o = c.args.order.now in
    let p = c.args.p.now in
    let lat = lattice_of o in
    let g = variable_of o p in
    let pc = c.args.pc.number in
    let cs = c.args.commands.now in
    let j = c.loop-c.c-index in
    let u = cut cs j c.c-item.result c.loop-c-test.true c.c-item.is in
    let n = cut_count cs j c.c-item.result c.loop-c-test.true c.c-item.is in
    let i = c.loop-c.invariant.count in
    let k = c.in_ok-part.ensures.number in
    let next = c.in_ok-part.ensures.passes (list_plan (drop (j + 1) cs)) in
    record {
      count = omega (arith, n, i, k);
      passes = (
        c.loop-c.invariant.passes.0 ∙ ap (λ z. walk_end lat g (tree_of o p (list_plan z) c.loop-c.next) pc c.loop-c.end.number) u ∙ next.0,
        c.loop-c.invariant.passes.1 ∙ ap (λ z. first_broken lat (conditions lat g (tree_of o p (list_plan z) c.loop-c.next) pc c.loop-c.end.number))
            u ∙ next.1,
      );
      stays = λ h.
          let rest = list_plan (drop (j + 1) cs) in
          let all = ap (λ z. end_of o p (list_plan z) c.loop-c.next pc c.loop-c.end.number) u in
          stays_on lat c.laws.ensures.lattice g (tree_of o p (command_plan c.c-item.result rest) c.loop-c.next)
          (tree_of o p (command_plan c.c-item.result Done) c.loop-c.next) (tree_of o p rest c.in_ok-part.part.0)
          pc c.loop-c.end.number c.in_ok-part.part.1.number (sym all ∙ c.loop-c.invariant.stays h) next.0 (c.in_ok-part.ensures.passes Done).0;
    }

use Rattle.std.proofs.Common.{rules, ◌+◌, ◌*◌, ◌<◌, ◌++◌, [], ◌∷◌, length, refl, sym, ap, ◌∙◌, arith}
use Rattle.std.specs.Prelude.{slice_set}
use Rattle.label_lattice.specs.Order.{lattice_of}
use Rattle.mit_syntax.specs.Expression.{expression_of}
use Rattle.mit_syntax.specs.Todo.{Done, If, While, Mitigate}
use Rattle.mit_syntax.specs.Plan.{Written, list_plan, form_count, count}
use Rattle.timing_types.specs.Labelling.{variable_of, level_of, marks_from}
use Rattle.timing_types.proofs.Parts.{if_parts, while_parts, mitigate_parts, if_count, while_count, mitigate_count, cut_count, drop_count}
use Rattle.label_code.specs.declared.code.Work.TheVariants.{Brz, Brnz, Jmp, Mitb}
use Rattle.label_code.specs.Machine.{instr}
use Rattle.code_lower.specs.Layout.{size}
use Rattle.code_lower.specs.Code.{expr_code, code_of}
use Rattle.code_lower.specs.Emitted.{marked_of}
use Rattle.code_lower.proofs.Extents.{cut_size}
use Rattle.code_lower.proofs.Patch.{if_emitted, while_emitted, mitigate_emitted, expr_length, put_length, one_length}
use Rattle.code_lower.proofs.Emitting.{list_step, added_length}
use Rattle.code_lower.proofs.emit.+emit.Goals as goal

pub emit_command-emit_list-requires : goal.emit_command-emit_list-requires
emit_command-emit_list-requires t c =
    let w : Written = record { pos = c.args.c.now.pos; labels = c.args.c.now.labels } in
    let o = c.args.order.now in
    let l = c.args.p.now in
    let lat = lattice_of o in
    let g = variable_of o l in
    let base = c.args.code.now.items in
    let m = marks_from c.own_labels-own.result in
    let r = c.requires.room in
    let k = c.requires.number in
    let parts = if_parts c.args.c.now.form c.in-If.guard c.in-If.then_part c.in-If.else_part c.deref.result.now c.in-If.else_part.items c.in-If.is
    c.deref.ensures.value refl w Done in
    let sizes = ap size parts in
    let n = if_count c.args.c.now.form c.in-If.guard c.in-If.then_part c.in-If.else_part c.deref.result.now c.in-If.else_part.items c.in-If.is
    c.deref.ensures.value refl w in
    let e = expression_of c.in-If.guard in
    let l2 = put_length lat g base c.emit_expr-in-If.new.code.items c.put-in-If.new.code.items m e (instr (Brz 0) m)
    c.in_ok-emit_expr-in-If.ensures c.in_ok-put-in-If.ensures in
    let d = c.decreases in
    let smaller : 2 * count (list_plan c.deref.result.now) + 1 < 2 * form_count c.args.c.now.form w = omega arith in
    (search rules, (omega arith, omega arith))

pub emit_command-emit_list-requires-in-If : goal.emit_command-emit_list-requires-in-If
emit_command-emit_list-requires-in-If t c =
    let w : Written = record { pos = c.args.c.now.pos; labels = c.args.c.now.labels } in
    let o = c.args.order.now in
    let l = c.args.p.now in
    let lat = lattice_of o in
    let g = variable_of o l in
    let base = c.args.code.now.items in
    let m = marks_from c.own_labels-own.result in
    let r = c.requires.room in
    let k = c.requires.number in
    let parts = if_parts c.args.c.now.form c.in-If.guard c.in-If.then_part c.in-If.else_part c.deref.result.now c.deref-in-If.result.now c.in-If.is
    c.deref.ensures.value c.deref-in-If.ensures.value w Done in
    let sizes = ap size parts in
    let n = if_count c.args.c.now.form c.in-If.guard c.in-If.then_part c.in-If.else_part c.deref.result.now c.deref-in-If.result.now c.in-If.is
    c.deref.ensures.value c.deref-in-If.ensures.value w in
    let e = expression_of c.in-If.guard in
    let l2 = put_length lat g base c.emit_expr-in-If.new.code.items c.put-in-If.new.code.items m e (instr (Brz 0) m)
    c.in_ok-emit_expr-in-If.ensures c.in_ok-put-in-If.ensures in
    let l3 = added_length o l c.put-in-If.new.code.items c.emit_list.new.code.items (list_plan c.deref.result.now) (c.args.number + 1)
    c.in_ok-next-in-If.ensures.code in
    let l4 = one_length lat g c.emit_list.new.code.items c.put-in-If-2.new.code.items (instr (Jmp 0) (marks_from c.raised-high.result))
    c.in_ok-put-in-If-2.ensures in
    let next = c.in_ok-next-in-If.ensures.number in
    let d = c.decreases in
    let smaller : 2 * count (list_plan c.deref-in-If.result.now) + 1 < 2 * form_count c.args.c.now.form w = omega arith in
    (search rules, (omega arith, omega arith))

pub emit_command-overflow_cast-jump : goal.emit_command-overflow_cast-jump
emit_command-overflow_cast-jump t c =
    let w : Written = record { pos = c.args.c.now.pos; labels = c.args.c.now.labels } in
    let o = c.args.order.now in
    let l = c.args.p.now in
    let lat = lattice_of o in
    let g = variable_of o l in
    let base = c.args.code.now.items in
    let m = marks_from c.own_labels-own.result in
    let r = c.requires.room in
    let k = c.requires.number in
    let parts = if_parts c.args.c.now.form c.in-If.guard c.in-If.then_part c.in-If.else_part c.deref.result.now c.deref-in-If.result.now c.in-If.is
    c.deref.ensures.value c.deref-in-If.ensures.value w Done in
    let sizes = ap size parts in
    let n = if_count c.args.c.now.form c.in-If.guard c.in-If.then_part c.in-If.else_part c.deref.result.now c.deref-in-If.result.now c.in-If.is
    c.deref.ensures.value c.deref-in-If.ensures.value w in
    let e = expression_of c.in-If.guard in
    let l2 = put_length lat g base c.emit_expr-in-If.new.code.items c.put-in-If.new.code.items m e (instr (Brz 0) m)
    c.in_ok-emit_expr-in-If.ensures c.in_ok-put-in-If.ensures in
    let l3 = added_length o l c.put-in-If.new.code.items c.emit_list.new.code.items (list_plan c.deref.result.now) (c.args.number + 1)
    c.in_ok-next-in-If.ensures.code in
    let j = c.len-jump.ensures ∙ c.emit_list.new.code.ok.0 in
    omega arith

pub emit_command-overflow_cast-end : goal.emit_command-overflow_cast-end
emit_command-overflow_cast-end t c =
    let w : Written = record { pos = c.args.c.now.pos; labels = c.args.c.now.labels } in
    let o = c.args.order.now in
    let l = c.args.p.now in
    let lat = lattice_of o in
    let g = variable_of o l in
    let base = c.args.code.now.items in
    let m = marks_from c.own_labels-own.result in
    let r = c.requires.room in
    let k = c.requires.number in
    let parts = if_parts c.args.c.now.form c.in-If.guard c.in-If.then_part c.in-If.else_part c.deref.result.now c.deref-in-If.result.now c.in-If.is
    c.deref.ensures.value c.deref-in-If.ensures.value w Done in
    let sizes = ap size parts in
    let n = if_count c.args.c.now.form c.in-If.guard c.in-If.then_part c.in-If.else_part c.deref.result.now c.deref-in-If.result.now c.in-If.is
    c.deref.ensures.value c.deref-in-If.ensures.value w in
    let e = expression_of c.in-If.guard in
    let l2 = put_length lat g base c.emit_expr-in-If.new.code.items c.put-in-If.new.code.items m e (instr (Brz 0) m)
    c.in_ok-emit_expr-in-If.ensures c.in_ok-put-in-If.ensures in
    let l3 = added_length o l c.put-in-If.new.code.items c.emit_list.new.code.items (list_plan c.deref.result.now) (c.args.number + 1)
    c.in_ok-next-in-If.ensures.code in
    let l4 = one_length lat g c.emit_list.new.code.items c.put-in-If-2.new.code.items (instr (Jmp 0) (marks_from c.raised-high.result))
    c.in_ok-put-in-If-2.ensures in
    let l5 = added_length o l c.put-in-If-2.new.code.items c.emit_list-in-If.new.code.items (list_plan c.deref-in-If.result.now) c.in_ok-next-in-If.next
    c.in_ok-last-in-If.ensures.code in
    let j = c.len-end.ensures ∙ c.emit_list-in-If.new.code.ok.0 in
    omega arith

pub emit_command-returns-in_ok-last-in-If-clause-number : goal.emit_command-returns-in_ok-last-in-If-clause-number
emit_command-returns-in_ok-last-in-If-clause-number t c =
    let w : Written = record { pos = c.args.c.now.pos; labels = c.args.c.now.labels } in
    let parts = if_parts c.args.c.now.form c.in-If.guard c.in-If.then_part c.in-If.else_part c.deref.result.now c.deref-in-If.result.now c.in-If.is
    c.deref.ensures.value c.deref-in-If.ensures.value w Done in
    let sizes = ap size parts in
    let n = if_count c.args.c.now.form c.in-If.guard c.in-If.then_part c.in-If.else_part c.deref.result.now c.deref-in-If.result.now c.in-If.is
    c.deref.ensures.value c.deref-in-If.ensures.value w in
    let next = c.in_ok-next-in-If.ensures.number in
    let last = c.in_ok-last-in-If.ensures.number in
    omega arith

pub emit_command-returns-in_ok-last-in-If-clause-code : goal.emit_command-returns-in_ok-last-in-If-clause-code
emit_command-returns-in_ok-last-in-If-clause-code t c =
    let w : Written = record { pos = c.args.c.now.pos; labels = c.args.c.now.labels } in
    let o = c.args.order.now in
    let l = c.args.p.now in
    let lat = lattice_of o in
    let g = variable_of o l in
    let base = c.args.code.now.items in
    let m = marks_from c.own_labels-own.result in
    let parts = if_parts c.args.c.now.form c.in-If.guard c.in-If.then_part c.in-If.else_part c.deref.result.now c.deref-in-If.result.now c.in-If.is
    c.deref.ensures.value c.deref-in-If.ensures.value w Done in
    let sizes = ap size parts in
    let n = if_count c.args.c.now.form c.in-If.guard c.in-If.then_part c.in-If.else_part c.deref.result.now c.deref-in-If.result.now c.in-If.is
    c.deref.ensures.value c.deref-in-If.ensures.value w in
    let e = expression_of c.in-If.guard in
    let a = list_plan c.deref.result.now in
    let b = list_plan c.deref-in-If.result.now in
    let p = marked_of o l a (c.args.number + 1) in
    let d = marked_of o l b c.in_ok-next-in-If.next in
    let n1 = c.len-test.result in
    let n2 = c.len-jump.result in
    let c5 = c.emit_list-in-If.new.code.items in
    let i = instr (Brz (n2 + 1)) m in
    let whole =
    if_emitted lat g base m e p d c.emit_expr-in-If.new.code.items c.put-in-If.new.code.items c.emit_list.new.code.items c.put-in-If-2.new.code.items c5
    (instr (Brz 0) m) (instr (Jmp 0) (marks_from c.raised-high.result)) n1 n2
    c.in_ok-emit_expr-in-If.ensures (c.len-test.ensures ∙ c.emit_expr-in-If.new.code.ok.0) c.in_ok-put-in-If.ensures c.in_ok-next-in-If.ensures.code
    (c.len-jump.ensures ∙ c.emit_list.new.code.ok.0) c.in_ok-put-in-If-2.ensures c.in_ok-last-in-If.ensures.code in
    ap (λ z. slice_set (slice_set c5 n1 z) n2 c.instruction-in-If.result) c.instruction.ensures
    ∙ ap (λ z. slice_set (slice_set c5 n1 i) n2 z) c.instruction-in-If.ensures
    ∙ ap (λ z. slice_set (slice_set c5 n1 i) n2 (instr (Jmp z) (marks_from c.raised-high.result))) (c.len-end.ensures ∙ c.emit_list-in-If.new.code.ok.0)
    ∙ ap (λ z. slice_set (slice_set c5 n1 i) n2 (instr (Jmp (length c5)) z)) c.raised-high.ensures
    ∙ whole
    ∙ ap (λ z. base ++ code_of lat g (If m e p (marked_of o l b z) Done) (length base)) c.in_ok-next-in-If.ensures.number
    ∙ ap (λ z. base ++ code_of lat g (If z e p (marked_of o l b (c.args.number + 1 + count a)) Done) (length base)) c.own_labels-own.ensures
    ∙ ap (λ z. base ++ code_of lat g (marked_of o l z c.args.number) (length base)) (sym parts)

pub emit_command-emit_list-requires-in-While : goal.emit_command-emit_list-requires-in-While
emit_command-emit_list-requires-in-While t c =
    let w : Written = record { pos = c.args.c.now.pos; labels = c.args.c.now.labels } in
    let o = c.args.order.now in
    let l = c.args.p.now in
    let lat = lattice_of o in
    let g = variable_of o l in
    let base = c.args.code.now.items in
    let m = marks_from c.own_labels-own.result in
    let r = c.requires.room in
    let k = c.requires.number in
    let parts = while_parts c.args.c.now.form c.in-While.guard c.in-While.body c.deref-in-While.result.now c.in-While.is
    c.deref-in-While.ensures.value w Done in
    let sizes = ap size parts in
    let n = while_count c.args.c.now.form c.in-While.guard c.in-While.body c.deref-in-While.result.now c.in-While.is c.deref-in-While.ensures.value w in
    let e = expression_of c.in-While.guard in
    let l2 = put_length lat g base c.emit_expr-in-While.new.code.items c.put-in-While.new.code.items m e (instr (Brz 0) m) c.in_ok-emit_expr-in-While.ensures
    c.in_ok-put-in-While.ensures in
    let d = c.decreases in
    let smaller : 2 * count (list_plan c.deref-in-While.result.now) + 1 < 2 * form_count c.args.c.now.form w = omega arith in
    (search rules, (omega arith, omega arith))

pub emit_command-overflow_cast-test : goal.emit_command-overflow_cast-test
emit_command-overflow_cast-test t c =
    let w : Written = record { pos = c.args.c.now.pos; labels = c.args.c.now.labels } in
    let o = c.args.order.now in
    let l = c.args.p.now in
    let lat = lattice_of o in
    let g = variable_of o l in
    let base = c.args.code.now.items in
    let m = marks_from c.own_labels-own.result in
    let r = c.requires.room in
    let k = c.requires.number in
    let parts = while_parts c.args.c.now.form c.in-While.guard c.in-While.body c.deref-in-While.result.now c.in-While.is
    c.deref-in-While.ensures.value w Done in
    let sizes = ap size parts in
    let n = while_count c.args.c.now.form c.in-While.guard c.in-While.body c.deref-in-While.result.now c.in-While.is c.deref-in-While.ensures.value w in
    let e = expression_of c.in-While.guard in
    let l1 = expr_length lat g base c.emit_expr-in-While.new.code.items m e c.in_ok-emit_expr-in-While.ensures in
    let j = c.len-test-in-While.ensures ∙ c.emit_expr-in-While.new.code.ok.0 in
    omega arith

pub emit_command-overflow_cast-end-in-While : goal.emit_command-overflow_cast-end-in-While
emit_command-overflow_cast-end-in-While t c =
    let w : Written = record { pos = c.args.c.now.pos; labels = c.args.c.now.labels } in
    let o = c.args.order.now in
    let l = c.args.p.now in
    let lat = lattice_of o in
    let g = variable_of o l in
    let base = c.args.code.now.items in
    let m = marks_from c.own_labels-own.result in
    let r = c.requires.room in
    let k = c.requires.number in
    let parts = while_parts c.args.c.now.form c.in-While.guard c.in-While.body c.deref-in-While.result.now c.in-While.is
    c.deref-in-While.ensures.value w Done in
    let sizes = ap size parts in
    let n = while_count c.args.c.now.form c.in-While.guard c.in-While.body c.deref-in-While.result.now c.in-While.is c.deref-in-While.ensures.value w in
    let e = expression_of c.in-While.guard in
    let rm = marks_from c.raised-high-in-While.result in
    let l2 = put_length lat g base c.emit_expr-in-While.new.code.items c.put-in-While.new.code.items m e (instr (Brz 0) m) c.in_ok-emit_expr-in-While.ensures
    c.in_ok-put-in-While.ensures in
    let l3 = added_length o l c.put-in-While.new.code.items c.emit_list-in-While.new.code.items (list_plan c.deref-in-While.result.now) (c.args.number + 1)
    c.in_ok-next-in-While.ensures.code in
    let l5 = put_length lat g c.emit_list-in-While.new.code.items c.emit_expr-in-While-2.new.code.items c.put-in-While-2.new.code.items rm e
    (instr (Brnz (c.len-test-in-While.result + 1)) rm) c.in_ok-emit_expr-in-While-2.ensures c.in_ok-put-in-While-2.ensures in
    let j = c.len-end-in-While.ensures ∙ c.put-in-While-2.new.code.ok.0 in
    omega arith

pub emit_command-returns-in_ok-put-in-While-2-clause-number : goal.emit_command-returns-in_ok-put-in-While-2-clause-number
emit_command-returns-in_ok-put-in-While-2-clause-number t c =
    let w : Written = record { pos = c.args.c.now.pos; labels = c.args.c.now.labels } in
    let parts = while_parts c.args.c.now.form c.in-While.guard c.in-While.body c.deref-in-While.result.now c.in-While.is
    c.deref-in-While.ensures.value w Done in
    let sizes = ap size parts in
    let n = while_count c.args.c.now.form c.in-While.guard c.in-While.body c.deref-in-While.result.now c.in-While.is c.deref-in-While.ensures.value w in
    let a = c.in_ok-next-in-While.ensures.number in
    omega arith

pub emit_command-returns-in_ok-put-in-While-2-clause-code : goal.emit_command-returns-in_ok-put-in-While-2-clause-code
emit_command-returns-in_ok-put-in-While-2-clause-code t c =
    let w : Written = record { pos = c.args.c.now.pos; labels = c.args.c.now.labels } in
    let o = c.args.order.now in
    let l = c.args.p.now in
    let lat = lattice_of o in
    let g = variable_of o l in
    let base = c.args.code.now.items in
    let m = marks_from c.own_labels-own.result in
    let parts = while_parts c.args.c.now.form c.in-While.guard c.in-While.body c.deref-in-While.result.now c.in-While.is
    c.deref-in-While.ensures.value w Done in
    let sizes = ap size parts in
    let n = while_count c.args.c.now.form c.in-While.guard c.in-While.body c.deref-in-While.result.now c.in-While.is c.deref-in-While.ensures.value w in
    let e = expression_of c.in-While.guard in
    let p = marked_of o l (list_plan c.deref-in-While.result.now) (c.args.number + 1) in
    let n1 = c.len-test-in-While.result in
    let c5 = c.put-in-While-2.new.code.items in
    let high = c.raised-high-in-While.ensures in
    let whole =
    while_emitted lat g base m e p c.emit_expr-in-While.new.code.items c.put-in-While.new.code.items c.emit_list-in-While.new.code.items
    c.emit_expr-in-While-2.new.code.items c5 (instr (Brz 0) m) n1
    c.in_ok-emit_expr-in-While.ensures (c.len-test-in-While.ensures ∙ c.emit_expr-in-While.new.code.ok.0) c.in_ok-put-in-While.ensures
    c.in_ok-next-in-While.ensures.code
    (c.in_ok-emit_expr-in-While-2.ensures ∙ ap (λ z. c.emit_list-in-While.new.code.items ++ expr_code z e) high)
    (c.in_ok-put-in-While-2.ensures ∙ ap (λ z. c.emit_expr-in-While-2.new.code.items ++ instr (Brnz (n1 + 1)) z ∷ []) high) in
    ap (λ z. slice_set c5 n1 z) c.instruction-in-While.ensures
    ∙ ap (λ z. slice_set c5 n1 (instr (Brz z) m)) (c.len-end-in-While.ensures ∙ c.put-in-While-2.new.code.ok.0)
    ∙ whole
    ∙ ap (λ z. base ++ code_of lat g (While z e p Done) (length base)) c.own_labels-own.ensures
    ∙ ap (λ z. base ++ code_of lat g (marked_of o l z c.args.number) (length base)) (sym parts)

pub emit_command-emit_list-requires-in-Mitigate : goal.emit_command-emit_list-requires-in-Mitigate
emit_command-emit_list-requires-in-Mitigate t c =
    let w : Written = record { pos = c.args.c.now.pos; labels = c.args.c.now.labels } in
    let o = c.args.order.now in
    let l = c.args.p.now in
    let lat = lattice_of o in
    let g = variable_of o l in
    let base = c.args.code.now.items in
    let m = marks_from c.own_labels-own.result in
    let r = c.requires.room in
    let k = c.requires.number in
    let parts = mitigate_parts c.args.c.now.form c.in-Mitigate.mark c.in-Mitigate.estimate c.in-Mitigate.level c.in-Mitigate.body c.deref-in-Mitigate.result.now
    c.in-Mitigate.is c.deref-in-Mitigate.ensures.value w Done in
    let sizes = ap size parts in
    let n = mitigate_count c.args.c.now.form c.in-Mitigate.mark c.in-Mitigate.estimate c.in-Mitigate.level c.in-Mitigate.body c.deref-in-Mitigate.result.now
    c.in-Mitigate.is c.deref-in-Mitigate.ensures.value w in
    let e = expression_of c.in-Mitigate.estimate in
    let l2 = put_length lat g base c.emit_expr-in-Mitigate.new.code.items c.put-in-Mitigate.new.code.items m e
    (instr (Mitb c.level-level.result c.in-Mitigate.mark) m) c.in_ok-emit_expr-in-Mitigate.ensures c.in_ok-put-in-Mitigate.ensures in
    let d = c.decreases in
    let smaller : 2 * count (list_plan c.deref-in-Mitigate.result.now) + 1 < 2 * form_count c.args.c.now.form w = omega arith in
    (search rules, (omega arith, omega arith))

pub emit_command-returns-in_ok-put-in-Mitigate-2-clause-number : goal.emit_command-returns-in_ok-put-in-Mitigate-2-clause-number
emit_command-returns-in_ok-put-in-Mitigate-2-clause-number t c =
    let w : Written = record { pos = c.args.c.now.pos; labels = c.args.c.now.labels } in
    let parts = mitigate_parts c.args.c.now.form c.in-Mitigate.mark c.in-Mitigate.estimate c.in-Mitigate.level c.in-Mitigate.body c.deref-in-Mitigate.result.now
    c.in-Mitigate.is c.deref-in-Mitigate.ensures.value w Done in
    let sizes = ap size parts in
    let n = mitigate_count c.args.c.now.form c.in-Mitigate.mark c.in-Mitigate.estimate c.in-Mitigate.level c.in-Mitigate.body c.deref-in-Mitigate.result.now
    c.in-Mitigate.is c.deref-in-Mitigate.ensures.value w in
    let a = c.in_ok-next-in-Mitigate.ensures.number in
    omega arith

pub emit_command-returns-in_ok-put-in-Mitigate-2-clause-code : goal.emit_command-returns-in_ok-put-in-Mitigate-2-clause-code
emit_command-returns-in_ok-put-in-Mitigate-2-clause-code t c =
    let w : Written = record { pos = c.args.c.now.pos; labels = c.args.c.now.labels } in
    let o = c.args.order.now in
    let l = c.args.p.now in
    let lat = lattice_of o in
    let g = variable_of o l in
    let base = c.args.code.now.items in
    let m = marks_from c.own_labels-own.result in
    let parts = mitigate_parts c.args.c.now.form c.in-Mitigate.mark c.in-Mitigate.estimate c.in-Mitigate.level c.in-Mitigate.body c.deref-in-Mitigate.result.now
    c.in-Mitigate.is c.deref-in-Mitigate.ensures.value w Done in
    let sizes = ap size parts in
    let n = mitigate_count c.args.c.now.form c.in-Mitigate.mark c.in-Mitigate.estimate c.in-Mitigate.level c.in-Mitigate.body c.deref-in-Mitigate.result.now
    c.in-Mitigate.is c.deref-in-Mitigate.ensures.value w in
    let e = expression_of c.in-Mitigate.estimate in
    let k = c.in-Mitigate.mark in
    let p = marked_of o l (list_plan c.deref-in-Mitigate.result.now) (c.args.number + 1) in
    let whole =
    mitigate_emitted lat g base m k c.level-level.result.number e p c.emit_expr-in-Mitigate.new.code.items c.put-in-Mitigate.new.code.items
    c.emit_list-in-Mitigate.new.code.items c.put-in-Mitigate-2.new.code.items
    c.in_ok-emit_expr-in-Mitigate.ensures c.in_ok-put-in-Mitigate.ensures c.in_ok-next-in-Mitigate.ensures.code c.in_ok-put-in-Mitigate-2.ensures in
    whole
    ∙ ap (λ z. base ++ code_of lat g (Mitigate m k z e p Done) (length base)) c.level-level.ensures
    ∙ ap (λ z. base ++ code_of lat g (Mitigate z k (level_of o l k) e p Done) (length base)) c.own_labels-own.ensures
    ∙ ap (λ z. base ++ code_of lat g (marked_of o l z c.args.number) (length base)) (sym parts)

pub emit_list-emit_command-requires : goal.emit_list-emit_command-requires
emit_list-emit_command-requires t c =
    let i = c.loop-c.invariant in
    let r = c.requires.room in
    let k = c.requires.number in
    let w : Written = record { pos = c.c-item.result.pos; labels = c.c-item.result.labels } in
    let d = c.decreases in
    let n = cut_count c.args.commands.now c.loop-c.c-index c.c-item.result c.loop-c-test.true c.c-item.is in
    let all = drop_count c.args.commands.now c.loop-c.c-index in
    let s = cut_size c.args.commands.now c.loop-c.c-index c.c-item.result c.loop-c-test.true c.c-item.is in
    let x = i.room in
    let y = i.count in
    let smaller : 2 * form_count c.c-item.result.form w < 2 * count (list_plan c.args.commands.now) + 1 = omega arith in
    (search rules, (omega arith, omega arith))

pub emit_list-loop-c-preserved : goal.emit_list-loop-c-preserved
emit_list-loop-c-preserved t c =
    let i = c.loop-c.invariant in
    let s = list_step c.args.order.now c.args.p.now c.loop-c.code.items c.emit_command.new.code.items c.args.commands.now c.loop-c.c-index c.c-item.result
    c.loop-c.next c.in_ok-next.next c.loop-c-test.true c.c-item.is c.in_ok-next.ensures.code c.in_ok-next.ensures.number in
    record { code = s.0 ∙ i.code; count = s.1 ∙ i.count; room = s.2 ∙ i.room }

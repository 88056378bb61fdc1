use Rattle.std.proofs.Common.{rules, ◌+◌, ◌*◌, ◌<◌, refl, ap, arith}
use Rattle.mit_syntax.specs.Expression.{expression_of}
use Rattle.mit_syntax.specs.Todo.{Done}
use Rattle.mit_syntax.specs.Plan.{Written, list_plan, command_plan, form_count, count}
use Rattle.timing_types.proofs.Parts.{if_parts, while_parts, mitigate_parts, if_count, while_count, mitigate_count, cut_count, drop_count}
use Rattle.code_lower.specs.Layout.{size}
use Rattle.code_lower.specs.Depth.{most_operands, deepest}
use Rattle.code_lower.proofs.Extents.{expr_operands_within, deepest_within, cut_size, cut_operands, cut_deepest}
use Rattle.code_lower.proofs.size.+extent.Goals as goal

pub command_extent-above_operand-requires : goal.command_extent-above_operand-requires
command_extent-above_operand-requires t c =
    let w : Written = record { pos = c.args.c.now.pos; labels = c.args.c.now.labels } in
    let r = c.requires in
    let s = ap (λ z. size (command_plan (record { pos = c.args.c.now.pos; labels = c.args.c.now.labels; form = z }) Done)) c.in-Put.is in
    let q = expr_operands_within (expression_of c.in-Put.value) in
    let a = c.expr_extent-in-Put-2.ensures.operands in
    omega arith

pub command_extent-list_extent-requires : goal.command_extent-list_extent-requires
command_extent-list_extent-requires t c =
    let w : Written = record { pos = c.args.c.now.pos; labels = c.args.c.now.labels } in
    let r = c.requires in
    let p = if_parts c.args.c.now.form c.in-If.guard c.in-If.then_part c.in-If.else_part c.deref.result.now c.in-If.else_part.items c.in-If.is
    c.deref.ensures.value refl w Done in
    let s = ap size p in
    let n = if_count c.args.c.now.form c.in-If.guard c.in-If.then_part c.in-If.else_part c.deref.result.now c.in-If.else_part.items c.in-If.is
    c.deref.ensures.value refl w in
    let d = c.decreases in
    let smaller : 2 * count (list_plan c.deref.result.now) + 1 < 2 * form_count c.args.c.now.form w = omega arith in
    (search rules, omega arith)

pub command_extent-followed_by-chosen-requires : goal.command_extent-followed_by-chosen-requires
command_extent-followed_by-chosen-requires t c =
    let w : Written = record { pos = c.args.c.now.pos; labels = c.args.c.now.labels } in
    let r = c.requires in
    let p = if_parts c.args.c.now.form c.in-If.guard c.in-If.then_part c.in-If.else_part c.deref.result.now c.in-If.else_part.items c.in-If.is
    c.deref.ensures.value refl w Done in
    let s = ap size p in
    let a = c.list_extent.ensures.size in
    omega arith

pub command_extent-followed_by-requires-in-If : goal.command_extent-followed_by-requires-in-If
command_extent-followed_by-requires-in-If t c =
    let w : Written = record { pos = c.args.c.now.pos; labels = c.args.c.now.labels } in
    let r = c.requires in
    let p = if_parts c.args.c.now.form c.in-If.guard c.in-If.then_part c.in-If.else_part c.deref.result.now c.in-If.else_part.items c.in-If.is
    c.deref.ensures.value refl w Done in
    let s = ap size p in
    let a = c.list_extent.ensures.size in
    let b = c.expr_extent-in-If.ensures.size in
    let e = c.followed_by-test.ensures.size in
    let f = c.followed_by-chosen.ensures.size in
    omega arith

pub command_extent-list_extent-requires-in-If : goal.command_extent-list_extent-requires-in-If
command_extent-list_extent-requires-in-If t c =
    let w : Written = record { pos = c.args.c.now.pos; labels = c.args.c.now.labels } in
    let r = c.requires in
    let p = if_parts c.args.c.now.form c.in-If.guard c.in-If.then_part c.in-If.else_part c.deref.result.now c.deref-in-If.result.now c.in-If.is
    c.deref.ensures.value c.deref-in-If.ensures.value w Done in
    let s = ap size p in
    let n = if_count c.args.c.now.form c.in-If.guard c.in-If.then_part c.in-If.else_part c.deref.result.now c.deref-in-If.result.now c.in-If.is
    c.deref.ensures.value c.deref-in-If.ensures.value w in
    let d = c.decreases in
    let smaller : 2 * count (list_plan c.deref-in-If.result.now) + 1 < 2 * form_count c.args.c.now.form w = omega arith in
    (search rules, omega arith)

pub command_extent-followed_by-requires-in-If-2 : goal.command_extent-followed_by-requires-in-If-2
command_extent-followed_by-requires-in-If-2 t c =
    let w : Written = record { pos = c.args.c.now.pos; labels = c.args.c.now.labels } in
    let r = c.requires in
    let p = if_parts c.args.c.now.form c.in-If.guard c.in-If.then_part c.in-If.else_part c.deref.result.now c.deref-in-If.result.now c.in-If.is
    c.deref.ensures.value c.deref-in-If.ensures.value w Done in
    let s = ap size p in
    let a = c.list_extent.ensures.size in
    let b = c.expr_extent-in-If.ensures.size in
    let e = c.followed_by-test.ensures.size in
    let f = c.followed_by-chosen.ensures.size in
    let g = c.followed_by-in-If.ensures.size in
    let h = c.list_extent-in-If.ensures.size in
    omega arith

pub command_extent-list_extent-requires-in-While : goal.command_extent-list_extent-requires-in-While
command_extent-list_extent-requires-in-While t c =
    let w : Written = record { pos = c.args.c.now.pos; labels = c.args.c.now.labels } in
    let r = c.requires in
    let p = while_parts c.args.c.now.form c.in-While.guard c.in-While.body c.deref-in-While.result.now c.in-While.is c.deref-in-While.ensures.value w Done in
    let s = ap size p in
    let n = while_count c.args.c.now.form c.in-While.guard c.in-While.body c.deref-in-While.result.now c.in-While.is c.deref-in-While.ensures.value w in
    let d = c.decreases in
    let smaller : 2 * count (list_plan c.deref-in-While.result.now) + 1 < 2 * form_count c.args.c.now.form w = omega arith in
    (search rules, omega arith)

pub command_extent-followed_by-requires-in-While : goal.command_extent-followed_by-requires-in-While
command_extent-followed_by-requires-in-While t c =
    let w : Written = record { pos = c.args.c.now.pos; labels = c.args.c.now.labels } in
    let r = c.requires in
    let p = while_parts c.args.c.now.form c.in-While.guard c.in-While.body c.deref-in-While.result.now c.in-While.is c.deref-in-While.ensures.value w Done in
    let s = ap size p in
    let a = c.expr_extent-in-While.ensures.size in
    let b = c.followed_by-test-in-While.ensures.size in
    let e = c.list_extent-in-While.ensures.size in
    omega arith

pub command_extent-followed_by-requires-in-While-2 : goal.command_extent-followed_by-requires-in-While-2
command_extent-followed_by-requires-in-While-2 t c =
    let w : Written = record { pos = c.args.c.now.pos; labels = c.args.c.now.labels } in
    let r = c.requires in
    let p = while_parts c.args.c.now.form c.in-While.guard c.in-While.body c.deref-in-While.result.now c.in-While.is c.deref-in-While.ensures.value w Done in
    let s = ap size p in
    let a = c.expr_extent-in-While.ensures.size in
    let b = c.followed_by-test-in-While.ensures.size in
    let e = c.list_extent-in-While.ensures.size in
    let f = c.followed_by-in-While.ensures.size in
    omega arith

pub command_extent-list_extent-requires-in-Mitigate : goal.command_extent-list_extent-requires-in-Mitigate
command_extent-list_extent-requires-in-Mitigate t c =
    let w : Written = record { pos = c.args.c.now.pos; labels = c.args.c.now.labels } in
    let r = c.requires in
    let p = mitigate_parts c.args.c.now.form c.in-Mitigate.mark c.in-Mitigate.estimate c.in-Mitigate.level c.in-Mitigate.body c.deref-in-Mitigate.result.now
    c.in-Mitigate.is c.deref-in-Mitigate.ensures.value w Done in
    let s = ap size p in
    let n = mitigate_count c.args.c.now.form c.in-Mitigate.mark c.in-Mitigate.estimate c.in-Mitigate.level c.in-Mitigate.body c.deref-in-Mitigate.result.now
    c.in-Mitigate.is c.deref-in-Mitigate.ensures.value w in
    let d = c.decreases in
    let smaller : 2 * count (list_plan c.deref-in-Mitigate.result.now) + 1 < 2 * form_count c.args.c.now.form w = omega arith in
    (search rules, omega arith)

pub command_extent-mitigated-requires : goal.command_extent-mitigated-requires
command_extent-mitigated-requires t c =
    let w : Written = record { pos = c.args.c.now.pos; labels = c.args.c.now.labels } in
    let r = c.requires in
    let p = mitigate_parts c.args.c.now.form c.in-Mitigate.mark c.in-Mitigate.estimate c.in-Mitigate.level c.in-Mitigate.body c.deref-in-Mitigate.result.now
    c.in-Mitigate.is c.deref-in-Mitigate.ensures.value w Done in
    let s = ap size p in
    let a = c.list_extent-in-Mitigate.ensures.nesting in
    let q = deepest_within (list_plan c.deref-in-Mitigate.result.now) in
    omega arith

pub command_extent-followed_by-inner-requires : goal.command_extent-followed_by-inner-requires
command_extent-followed_by-inner-requires t c =
    let w : Written = record { pos = c.args.c.now.pos; labels = c.args.c.now.labels } in
    let r = c.requires in
    let p = mitigate_parts c.args.c.now.form c.in-Mitigate.mark c.in-Mitigate.estimate c.in-Mitigate.level c.in-Mitigate.body c.deref-in-Mitigate.result.now
    c.in-Mitigate.is c.deref-in-Mitigate.ensures.value w Done in
    let s = ap size p in
    let a = c.list_extent-in-Mitigate.ensures.size in
    let b = c.mitigated.ensures.size in
    omega arith

pub command_extent-followed_by-requires-in-Mitigate : goal.command_extent-followed_by-requires-in-Mitigate
command_extent-followed_by-requires-in-Mitigate t c =
    let w : Written = record { pos = c.args.c.now.pos; labels = c.args.c.now.labels } in
    let r = c.requires in
    let p = mitigate_parts c.args.c.now.form c.in-Mitigate.mark c.in-Mitigate.estimate c.in-Mitigate.level c.in-Mitigate.body c.deref-in-Mitigate.result.now
    c.in-Mitigate.is c.deref-in-Mitigate.ensures.value w Done in
    let s = ap size p in
    let a = c.list_extent-in-Mitigate.ensures.size in
    let b = c.mitigated.ensures.size in
    let e = c.expr_extent-in-Mitigate.ensures.size in
    let f = c.followed_by-start.ensures.size in
    let g = c.followed_by-inner.ensures.size in
    omega arith

pub command_extent-returns-in-If : goal.command_extent-returns-in-If
command_extent-returns-in-If t c =
    let w : Written = record { pos = c.args.c.now.pos; labels = c.args.c.now.labels } in
    let r = c.requires in
    let p = if_parts c.args.c.now.form c.in-If.guard c.in-If.then_part c.in-If.else_part c.deref.result.now c.deref-in-If.result.now c.in-If.is
    c.deref.ensures.value c.deref-in-If.ensures.value w Done in
    record {
      size = let a = c.list_extent.ensures.size in let b = c.expr_extent-in-If.ensures.size in let e = c.followed_by-test.ensures.size in let f =
          c.followed_by-chosen.ensures.size in let g = c.followed_by-in-If.ensures.size in let h = c.list_extent-in-If.ensures.size in let j =
          c.followed_by-in-If-2.ensures.size in let s = ap size p in omega arith;
      operands = let a = c.list_extent.ensures.operands in let b = c.expr_extent-in-If.ensures.operands in let e = c.followed_by-test.ensures.operands in
          let f = c.followed_by-chosen.ensures.operands in let g = c.followed_by-in-If.ensures.operands in let h = c.list_extent-in-If.ensures.operands in
          let j = c.followed_by-in-If-2.ensures.operands in let s = ap most_operands p in omega arith;
      nesting = let a = c.list_extent.ensures.nesting in let b = c.expr_extent-in-If.ensures.nesting in let e = c.followed_by-test.ensures.nesting in let f =
          c.followed_by-chosen.ensures.nesting in let g = c.followed_by-in-If.ensures.nesting in let h = c.list_extent-in-If.ensures.nesting in let j =
          c.followed_by-in-If-2.ensures.nesting in let s = ap deepest p in omega arith;
    }

pub command_extent-returns-in-While : goal.command_extent-returns-in-While
command_extent-returns-in-While t c =
    let w : Written = record { pos = c.args.c.now.pos; labels = c.args.c.now.labels } in
    let r = c.requires in
    let p = while_parts c.args.c.now.form c.in-While.guard c.in-While.body c.deref-in-While.result.now c.in-While.is c.deref-in-While.ensures.value w Done in
    record {
      size = let a = c.expr_extent-in-While.ensures.size in let b = c.followed_by-test-in-While.ensures.size in let e = c.list_extent-in-While.ensures.size in
          let f = c.followed_by-in-While.ensures.size in let g = c.followed_by-in-While-2.ensures.size in let s = ap size p in omega arith;
      operands = let a = c.expr_extent-in-While.ensures.operands in let b = c.followed_by-test-in-While.ensures.operands in let e =
          c.list_extent-in-While.ensures.operands in let f = c.followed_by-in-While.ensures.operands in let g = c.followed_by-in-While-2.ensures.operands in
          let s = ap most_operands p in omega arith;
      nesting = let a = c.expr_extent-in-While.ensures.nesting in let b = c.followed_by-test-in-While.ensures.nesting in let e =
          c.list_extent-in-While.ensures.nesting in let f = c.followed_by-in-While.ensures.nesting in let g = c.followed_by-in-While-2.ensures.nesting in
          let s = ap deepest p in omega arith;
    }

pub command_extent-returns-in-Mitigate : goal.command_extent-returns-in-Mitigate
command_extent-returns-in-Mitigate t c =
    let w : Written = record { pos = c.args.c.now.pos; labels = c.args.c.now.labels } in
    let r = c.requires in
    let p = mitigate_parts c.args.c.now.form c.in-Mitigate.mark c.in-Mitigate.estimate c.in-Mitigate.level c.in-Mitigate.body c.deref-in-Mitigate.result.now
    c.in-Mitigate.is c.deref-in-Mitigate.ensures.value w Done in
    record {
      size = let a = c.list_extent-in-Mitigate.ensures.size in let b = c.mitigated.ensures.size in let e = c.expr_extent-in-Mitigate.ensures.size in let f =
          c.followed_by-start.ensures.size in let g = c.followed_by-inner.ensures.size in let h = c.followed_by-in-Mitigate.ensures.size in
          let s = ap size p in omega arith;
      operands = let a = c.list_extent-in-Mitigate.ensures.operands in let b = c.mitigated.ensures.operands in let e =
          c.expr_extent-in-Mitigate.ensures.operands in let f = c.followed_by-start.ensures.operands in let g = c.followed_by-inner.ensures.operands in let h =
          c.followed_by-in-Mitigate.ensures.operands in let s = ap most_operands p in omega arith;
      nesting = let a = c.list_extent-in-Mitigate.ensures.nesting in let b = c.mitigated.ensures.nesting in let e = c.expr_extent-in-Mitigate.ensures.nesting in
          let f = c.followed_by-start.ensures.nesting in let g = c.followed_by-inner.ensures.nesting in let h = c.followed_by-in-Mitigate.ensures.nesting in
          let s = ap deepest p in omega arith;
    }

pub list_extent-command_extent-requires : goal.list_extent-command_extent-requires
list_extent-command_extent-requires t c =
    let i = c.loop-c.invariant in
    let r = c.requires in
    let w : Written = record { pos = c.c-item.result.pos; labels = c.c-item.result.labels } in
    let d = c.decreases in
    let n = cut_count c.args.commands.now c.loop-c.c-index c.c-item.result c.loop-c-test.true c.c-item.is in
    let all = drop_count c.args.commands.now c.loop-c.c-index in
    let s = cut_size c.args.commands.now c.loop-c.c-index c.c-item.result c.loop-c-test.true c.c-item.is in
    let x = i.size in
    let smaller : 2 * form_count c.c-item.result.form w < 2 * count (list_plan c.args.commands.now) + 1 = omega arith in
    (search rules, omega arith)

pub list_extent-followed_by-all-requires : goal.list_extent-followed_by-all-requires
list_extent-followed_by-all-requires t c =
    let i = c.loop-c.invariant in
    let r = c.requires in
    let s = cut_size c.args.commands.now c.loop-c.c-index c.c-item.result c.loop-c-test.true c.c-item.is in
    let x = i.size in
    let a = c.command_extent.ensures.size in
    omega arith

pub list_extent-loop-c-preserved : goal.list_extent-loop-c-preserved
list_extent-loop-c-preserved t c =
    let i = c.loop-c.invariant in
    record {
      size = let s = cut_size c.args.commands.now c.loop-c.c-index c.c-item.result c.loop-c-test.true c.c-item.is in let x = i.size in let a =
          c.command_extent.ensures.size in let b = c.followed_by-all.ensures.size in omega arith;
      operands = let s = cut_operands c.args.commands.now c.loop-c.c-index c.c-item.result c.loop-c-test.true c.c-item.is in let x = i.operands in let a =
          c.command_extent.ensures.operands in let b = c.followed_by-all.ensures.operands in omega arith;
      nesting = let s = cut_deepest c.args.commands.now c.loop-c.c-index c.c-item.result c.loop-c-test.true c.c-item.is in let x = i.nesting in let a =
          c.command_extent.ensures.nesting in let b = c.followed_by-all.ensures.nesting in omega arith;
    }

use Rattle.std.proofs.Common.{rules, ◌+◌, ◌*◌, ◌<◌, ◌≡◌, ◌++◌, refl, ap, subst, arith, drop}
use Rattle.std.proofs.lemmas.List.{drop_all}
use Rattle.mit_syntax.specs.Expression.{expression_of}
use Rattle.mit_syntax.specs.Plan.{Written, form_plan, command_plan, list_plan, form_count, count}
use Rattle.timing_types.proofs.Parts.{if_parts, while_parts, if_count, while_count, cut, cut_count, drop_count}
use Rattle.flow_path.specs.declared.step.How.TheVariants.{AfterReadLabel}
use Rattle.flow_path.specs.Steps.{read_label, after, after_set, after_put, ends}
use Rattle.flow_path.specs.Distances.{ComesTo}
use Rattle.flow_path.proofs.Passing.{comes_none, comes_by, comes_if, comes_while, comes_then}
use Rattle.flow_path.proofs.pass.+ends.Goals as goal

pub command_end-returns-in-Skip : goal.command_end-returns-in-Skip
command_end-returns-in-Skip t c =
    let r = c.args.round.now in
    let w : Written = record { pos = c.args.c.now.pos; labels = c.args.c.now.labels } in
    λ rest.
    let q = ap (λ z. form_plan z w rest) c.in-Skip.is in
    comes_by r.program.now r.target.now r.known.now.variables.items c.args.t c.after_skip.result (command_plan c.args.c.now rest) rest
    (λ T. T ++ read_label AfterReadLabel w.pos w.labels) c.after_skip.ensures (λ T. ap (λ z. ends z T) q)

pub command_end-returns-in-Assign : goal.command_end-returns-in-Assign
command_end-returns-in-Assign t c =
    let r = c.args.round.now in
    let w : Written = record { pos = c.args.c.now.pos; labels = c.args.c.now.labels } in
    λ rest.
    let q = ap (λ z. form_plan z w rest) c.in-Assign.is in
    comes_by r.program.now r.target.now r.known.now.variables.items c.args.t c.after_set.result (command_plan c.args.c.now rest) rest
    (λ T. after_set T w c.in-Assign.variable (expression_of c.in-Assign.value)) c.after_set.ensures (λ T. ap (λ z. ends z T) q)

pub command_end-returns-in-Put : goal.command_end-returns-in-Put
command_end-returns-in-Put t c =
    let r = c.args.round.now in
    let w : Written = record { pos = c.args.c.now.pos; labels = c.args.c.now.labels } in
    λ rest.
    let q = ap (λ z. form_plan z w rest) c.in-Put.is in
    comes_by r.program.now r.target.now r.known.now.variables.items c.args.t c.after_put.result (command_plan c.args.c.now rest) rest
    (λ T. after_put T w c.in-Put.first (expression_of c.in-Put.index) (expression_of c.in-Put.value)) c.after_put.ensures (λ T. ap (λ z. ends z T) q)

pub command_end-returns-in-Sleep : goal.command_end-returns-in-Sleep
command_end-returns-in-Sleep t c =
    let r = c.args.round.now in
    let w : Written = record { pos = c.args.c.now.pos; labels = c.args.c.now.labels } in
    λ rest.
    let q = ap (λ z. form_plan z w rest) c.in-Sleep.is in
    comes_by r.program.now r.target.now r.known.now.variables.items c.args.t c.after.result (command_plan c.args.c.now rest) rest
    (λ T. after T w (expression_of c.in-Sleep.time)) c.after.ensures (λ T. ap (λ z. ends z T) q)

pub command_end-returns-in-Mitigate : goal.command_end-returns-in-Mitigate
command_end-returns-in-Mitigate t c =
    let r = c.args.round.now in
    let w : Written = record { pos = c.args.c.now.pos; labels = c.args.c.now.labels } in
    λ rest.
    let q = ap (λ z. form_plan z w rest) c.in-Mitigate.is in
    comes_by r.program.now r.target.now r.known.now.variables.items c.args.t c.after-in-Mitigate.result (command_plan c.args.c.now rest) rest
    (λ T. after T w (expression_of c.in-Mitigate.estimate)) c.after-in-Mitigate.ensures (λ T. ap (λ z. ends z T) q)

pub command_end-returns-in-If : goal.command_end-returns-in-If
command_end-returns-in-If t c =
    let r = c.args.round.now in
    let w : Written = record { pos = c.args.c.now.pos; labels = c.args.c.now.labels } in
    λ rest.
    let q = if_parts c.args.c.now.form c.in-If.guard c.in-If.then_part c.in-If.else_part c.deref.result.now c.deref-in-If.result.now c.in-If.is
    c.deref.ensures.value c.deref-in-If.ensures.value w rest in
    comes_if r.program.now r.target.now r.known.now.variables.items c.args.t c.after-start.result c.list_end-one.result c.list_end-other.result
    c.better.result (command_plan c.args.c.now rest) (list_plan c.deref.result.now) (list_plan c.deref-in-If.result.now) rest w
    (expression_of c.in-If.guard)
    q c.after-start.ensures c.list_end-one.ensures c.list_end-other.ensures (c.better.ensures r.program.now r.target.now r.known.now.variables.items)

pub command_end-returns-in-While : goal.command_end-returns-in-While
command_end-returns-in-While t c =
    let r = c.args.round.now in
    let w : Written = record { pos = c.args.c.now.pos; labels = c.args.c.now.labels } in
    λ rest.
    let q = while_parts c.args.c.now.form c.in-While.guard c.in-While.body c.deref-in-While.result.now c.in-While.is c.deref-in-While.ensures.value w rest in
    comes_while r.program.now r.target.now r.known.now.variables.items c.args.t c.after-start-in-While.result c.list_end.result
    (command_plan c.args.c.now rest) (list_plan c.deref-in-While.result.now) rest w (expression_of c.in-While.guard)
    q c.after-start-in-While.ensures c.list_end.ensures

pub list_end-loop-c-init : goal.list_end-loop-c-init
list_end-loop-c-init t c =
    let r = c.args.round.now in
    comes_none r.program.now r.target.now r.known.now.variables.items c.args.t (list_plan c.args.commands.now)

pub list_end-loop-c-preserved : goal.list_end-loop-c-preserved
list_end-loop-c-preserved t c =
    let r = c.args.round.now in
    let cs = c.args.commands.now in
    let more = list_plan (drop (c.loop-c.c-index + 1) c.args.commands.now) in
    let e : list_plan (drop c.loop-c.c-index c.args.commands.now) ≡ command_plan c.c-item.result (list_plan (drop (c.loop-c.c-index + 1) c.args.commands.now)) =
    ap list_plan (cut cs c.loop-c.c-index c.c-item.result c.loop-c-test.true c.c-item.is) in
    let h = subst (λ z. ComesTo r.program.now r.target.now r.known.now.variables.items c.args.t c.loop-c.end (list_plan c.args.commands.now) z) e
    c.loop-c.invariant in
    comes_then r.program.now r.target.now r.known.now.variables.items c.args.t c.loop-c.end c.command_end-end.result (list_plan c.args.commands.now)
    (command_plan c.c-item.result more) more h (c.command_end-end.ensures more)

pub list_end-returns : goal.list_end-returns
list_end-returns t c =
    let r = c.args.round.now in
    subst (λ z. ComesTo r.program.now r.target.now r.known.now.variables.items c.args.t c.loop-c.end (list_plan c.args.commands.now) (list_plan z))
    (drop_all c.loop-c.c-index c.args.commands.now c.loop-c-test.false) c.loop-c.invariant

pub command_end-list_end-one-requires : goal.command_end-list_end-one-requires
command_end-list_end-one-requires t c =
    let w : Written = record { pos = c.args.c.now.pos; labels = c.args.c.now.labels } in
    let d = c.decreases in
    let n = if_count c.args.c.now.form c.in-If.guard c.in-If.then_part c.in-If.else_part c.deref.result.now c.in-If.else_part.items c.in-If.is
    c.deref.ensures.value refl w in
    let smaller : 2 * count (list_plan c.deref.result.now) + 1 < 2 * form_count c.args.c.now.form w = omega arith in
    (search rules, c.requires)

pub command_end-list_end-other-requires : goal.command_end-list_end-other-requires
command_end-list_end-other-requires t c =
    let w : Written = record { pos = c.args.c.now.pos; labels = c.args.c.now.labels } in
    let d = c.decreases in
    let n = if_count c.args.c.now.form c.in-If.guard c.in-If.then_part c.in-If.else_part c.deref.result.now c.deref-in-If.result.now c.in-If.is
    c.deref.ensures.value c.deref-in-If.ensures.value w in
    let smaller : 2 * count (list_plan c.deref-in-If.result.now) + 1 < 2 * form_count c.args.c.now.form w = omega arith in
    (search rules, c.requires)

pub command_end-list_end-requires : goal.command_end-list_end-requires
command_end-list_end-requires t c =
    let w : Written = record { pos = c.args.c.now.pos; labels = c.args.c.now.labels } in
    let d = c.decreases in
    let n = while_count c.args.c.now.form c.in-While.guard c.in-While.body c.deref-in-While.result.now c.in-While.is c.deref-in-While.ensures.value w in
    let smaller : 2 * count (list_plan c.deref-in-While.result.now) + 1 < 2 * form_count c.args.c.now.form w = omega arith in
    (search rules, c.requires)

pub list_end-command_end-end-requires : goal.list_end-command_end-end-requires
list_end-command_end-end-requires t c =
    let w : Written = record { pos = c.c-item.result.pos; labels = c.c-item.result.labels } in
    let d = c.decreases in
    let n = cut_count c.args.commands.now c.loop-c.c-index c.c-item.result c.loop-c-test.true c.c-item.is in
    let all = drop_count c.args.commands.now c.loop-c.c-index in
    let smaller : 2 * form_count c.c-item.result.form w < 2 * count (list_plan c.args.commands.now) + 1 = omega arith in
    (search rules, c.requires)

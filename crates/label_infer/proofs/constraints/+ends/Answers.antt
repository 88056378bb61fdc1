use Rattle.std.proofs.Common.{ap}
use Rattle.mit_syntax.specs.Expression.{expression_of}
use Rattle.mit_syntax.specs.Plan.{Written, form_plan, command_plan, list_plan}
use Rattle.timing_types.proofs.Parts.{if_parts, while_parts}
use Rattle.label_infer.specs.LeftSideOf.{left_side_of}
use Rattle.label_infer.proofs.Joined.{if_ok, put_end, if_end, while_end}
use Rattle.label_infer.proofs.constraints.+ends.Goals as goal

pub command_end-returns-in_ok-other-in-If : goal.command_end-returns-in_ok-other-in-If
command_end-returns-in_ok-other-in-If t c =
    let w : Written = record { pos = c.args.c.now.pos; labels = c.args.c.now.labels } in
    if_ok c.both.result (λ f h rest.
    let q = if_parts c.args.c.now.form c.in-If.guard c.in-If.then_part c.in-If.else_part c.deref.result.now c.deref-in-If.result.now c.in-If.is
    c.deref.ensures.value c.deref-in-If.ensures.value w rest in
    if_end c.args.k.now w (left_side_of c.args.t.now) (expression_of c.in-If.guard) (command_plan c.args.c.now rest)
    (list_plan c.deref.result.now) (list_plan c.deref-in-If.result.now) rest
    (left_side_of c.in_ok-start-in-If.start) (left_side_of c.in_ok-one-in-If.one) (left_side_of c.in_ok-other-in-If.other) (left_side_of f)
    q c.in_ok-start-in-If.ensures c.in_ok-one-in-If.ensures c.in_ok-other-in-If.ensures h) c.both.ensures

pub command_end-returns-in_ok-start-in-While : goal.command_end-returns-in_ok-start-in-While
command_end-returns-in_ok-start-in-While t c =
    let w : Written = record { pos = c.args.c.now.pos; labels = c.args.c.now.labels } in
    if_ok c.list_end-in-While.result (λ f h rest.
    let q = while_parts c.args.c.now.form c.in-While.guard c.in-While.body c.deref-in-While.result.now c.in-While.is c.deref-in-While.ensures.value w rest in
    while_end c.args.k.now w (left_side_of c.args.t.now) (expression_of c.in-While.guard) (command_plan c.args.c.now rest)
    (list_plan c.deref-in-While.result.now) rest
    (left_side_of c.in_ok-start-in-While.start) (left_side_of f) q c.in_ok-start-in-While.ensures h) c.list_end-in-While.ensures

pub command_end-returns-in-Put : goal.command_end-returns-in-Put
command_end-returns-in-Put t c =
    let w : Written = record { pos = c.args.c.now.pos; labels = c.args.c.now.labels } in
    if_ok c.after_put.result (λ f h rest.
    put_end c.args.k.now w (left_side_of c.args.t.now) c.in-Put.first c.in-Put.length (expression_of c.in-Put.index) (expression_of c.in-Put.value)
    (command_plan c.args.c.now rest) rest (left_side_of f) (ap (λ z. form_plan z w rest) c.in-Put.is) h) c.after_put.ensures

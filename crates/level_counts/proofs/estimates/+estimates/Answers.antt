use Rattle.std.specs.Prelude.{map}
use Rattle.mit_syntax.specs.Expression.{expression_of}
use Rattle.mit_syntax.specs.Plan.{Written, command_plan, list_plan}
use Rattle.timing_types.proofs.Parts.{if_parts, while_parts, mitigate_parts}
use Rattle.level_counts.proofs.Placing.{if_estimates, while_estimates, mitigate_estimates}
use Rattle.level_counts.proofs.estimates.+estimates.Goals as goal

pub command_estimates-returns-in_ok-list_estimates-in-If-2 : goal.command_estimates-returns-in_ok-list_estimates-in-If-2
command_estimates-returns-in_ok-list_estimates-in-If-2 t c =
    let w : Written = record { pos = c.args.c.now.pos; labels = c.args.c.now.labels } in
    λ rest.
    let q = if_parts c.args.c.now.form c.in-If.guard c.in-If.then_part c.in-If.else_part c.deref.result.now c.deref-in-If.result.now c.in-If.is
    c.deref.ensures.value c.deref-in-If.ensures.value w rest in
    if_estimates w (expression_of c.in-If.guard) (command_plan c.args.c.now rest) (list_plan c.deref.result.now) (list_plan c.deref-in-If.result.now) rest
    (map (λ e. expression_of e.now) c.args.found.now.items) (map (λ e. expression_of e.now) c.list_estimates.new.found.items)
    (map (λ e. expression_of e.now) c.list_estimates-in-If.new.found.items) q c.in_ok-list_estimates-in-If.ensures c.in_ok-list_estimates-in-If-2.ensures

pub command_estimates-returns-in_ok-list_estimates-in-While : goal.command_estimates-returns-in_ok-list_estimates-in-While
command_estimates-returns-in_ok-list_estimates-in-While t c =
    let w : Written = record { pos = c.args.c.now.pos; labels = c.args.c.now.labels } in
    λ rest.
    let q = while_parts c.args.c.now.form c.in-While.guard c.in-While.body c.deref-in-While.result.now c.in-While.is c.deref-in-While.ensures.value w rest in
    while_estimates w (expression_of c.in-While.guard) (command_plan c.args.c.now rest) (list_plan c.deref-in-While.result.now) rest
    (map (λ e. expression_of e.now) c.args.found.now.items) (map (λ e. expression_of e.now) c.list_estimates-in-While.new.found.items) q
    c.in_ok-list_estimates-in-While.ensures

pub command_estimates-returns-in_ok-list_estimates-in-Mitigate : goal.command_estimates-returns-in_ok-list_estimates-in-Mitigate
command_estimates-returns-in_ok-list_estimates-in-Mitigate t c =
    let w : Written = record { pos = c.args.c.now.pos; labels = c.args.c.now.labels } in
    λ rest.
    let q = mitigate_parts c.args.c.now.form c.in-Mitigate.mark c.in-Mitigate.estimate c.in-Mitigate.level c.in-Mitigate.body c.deref-in-Mitigate.result.now
    c.in-Mitigate.is c.deref-in-Mitigate.ensures.value w rest in
    mitigate_estimates (λ e. expression_of e.now) _ w c.in-Mitigate.mark c.in-Mitigate.level (command_plan c.args.c.now rest)
    (list_plan c.deref-in-Mitigate.result.now) rest
    c.args.found.now.items c.push.new.self.items (map (λ e. expression_of e.now) c.list_estimates-in-Mitigate.new.found.items) q
    c.in_ok-push-in-Mitigate.ensures.items c.in_ok-list_estimates-in-Mitigate.ensures

use Rattle.std.proofs.Common.{ℕ, Bool, sym, ap, ◌∙◌}
use Rattle.std.specs.Prelude.{◌&&◌, slice_index_or, false}
use Rattle.mit_syntax.specs.Expression.{expression_of}
use Rattle.mit_syntax.specs.Plan.{Written, command_plan, list_plan}
use Rattle.timing_types.proofs.Parts.{if_parts, while_parts, mitigate_parts}
use Rattle.level_counts.specs.Apart.{finds_apart}
use Rattle.level_counts.proofs.Walking.{if_apart, while_apart, mitigate_apart}
use Rattle.level_counts.proofs.apart.+apart.Goals as goal

pub command_apart-returns-then-one : goal.command_apart-returns-then-one
command_apart-returns-then-one t c =
    let w : Written = record { pos = c.args.c.now.pos; labels = c.args.c.now.labels } in
    let rel : ℕ → Bool = λ k. slice_index_or c.args.relevant.now k false in
    λ rest.
    let q = if_parts c.args.c.now.form c.in-If.guard c.in-If.then_part c.in-If.else_part c.deref.result.now c.deref-in-If.result.now c.in-If.is
    c.deref.ensures.value c.deref-in-If.ensures.value w rest in
    if_apart rel c.args.inside w (expression_of c.in-If.guard) (command_plan c.args.c.now rest) rest (list_plan c.deref.result.now)
    (list_plan c.deref-in-If.result.now) c.list_apart-one.result c.list_apart-other.result q c.list_apart-one.ensures c.list_apart-other.ensures
    ∙ ap (λ z. (z && c.list_apart-other.result) && finds_apart rel c.args.inside rest) c.if-one.true

pub command_apart-returns-else-one : goal.command_apart-returns-else-one
command_apart-returns-else-one t c =
    let w : Written = record { pos = c.args.c.now.pos; labels = c.args.c.now.labels } in
    let rel : ℕ → Bool = λ k. slice_index_or c.args.relevant.now k false in
    λ rest.
    let q = if_parts c.args.c.now.form c.in-If.guard c.in-If.then_part c.in-If.else_part c.deref.result.now c.deref-in-If.result.now c.in-If.is
    c.deref.ensures.value c.deref-in-If.ensures.value w rest in
    if_apart rel c.args.inside w (expression_of c.in-If.guard) (command_plan c.args.c.now rest) rest (list_plan c.deref.result.now)
    (list_plan c.deref-in-If.result.now) c.list_apart-one.result c.list_apart-other.result q c.list_apart-one.ensures c.list_apart-other.ensures
    ∙ ap (λ z. (z && c.list_apart-other.result) && finds_apart rel c.args.inside rest) c.if-one.false
    ∙ ap (λ z. z && finds_apart rel c.args.inside rest) (sym c.if-one.false)

pub command_apart-returns-in-While : goal.command_apart-returns-in-While
command_apart-returns-in-While t c =
    let w : Written = record { pos = c.args.c.now.pos; labels = c.args.c.now.labels } in
    λ rest.
    let q = while_parts c.args.c.now.form c.in-While.guard c.in-While.body c.deref-in-While.result.now c.in-While.is c.deref-in-While.ensures.value w rest in
    while_apart (λ k. slice_index_or c.args.relevant.now k false) c.args.inside w (expression_of c.in-While.guard) (command_plan c.args.c.now rest) rest
    (list_plan c.deref-in-While.result.now) c.list_apart.result q c.list_apart.ensures

pub command_apart-returns-in-Mitigate : goal.command_apart-returns-in-Mitigate
command_apart-returns-in-Mitigate t c =
    let w : Written = record { pos = c.args.c.now.pos; labels = c.args.c.now.labels } in
    let rel : ℕ → Bool = λ k. slice_index_or c.args.relevant.now k false in
    λ rest.
    let q = mitigate_parts c.args.c.now.form c.in-Mitigate.mark c.in-Mitigate.estimate c.in-Mitigate.level c.in-Mitigate.body c.deref-in-Mitigate.result.now
    c.in-Mitigate.is c.deref-in-Mitigate.ensures.value w rest in
    mitigate_apart rel c.args.inside w (expression_of c.in-Mitigate.estimate) (command_plan c.args.c.now rest) rest c.in-Mitigate.mark c.in-Mitigate.level
    (list_plan c.deref-in-Mitigate.result.now) c.list_apart-body.result c.is_relevant-here.result q c.is_relevant-here.ensures
    (c.list_apart-body.ensures ∙ ap (λ z. finds_apart rel z (list_plan c.deref-in-Mitigate.result.now)) c.is_within.ensures)
    ∙ ap (λ z. z && finds_apart rel c.args.inside rest) (sym c.may_stand.ensures)

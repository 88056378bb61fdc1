use Rattle.std.proofs.Common.{◌≤◌, length, sym, ap, ◌∙◌, subst, arith}
use Rattle.std.proofs.lemmas.Bool.{MatchBool-at_true, MatchBool-at_false}
use Rattle.mit_syntax.specs.Declarations.{variables}
use Rattle.mit_syntax.specs.Plan.{list_plan}
use Rattle.mit_syntax.specs.Valid.{IsValid}
use Rattle.timing_types.specs.Labelling.{IsLabelling}
use Rattle.timing_types.specs.Labelled.{order_of, labels_of, bare_of}
use Rattle.label_code.specs.Shaped.{Code, IsShaped}
use Rattle.code_lower.specs.Layout.{size, IsImage}
use Rattle.code_lower.specs.Lowered.{lowered}
use Rattle.code_lower.proofs.Stands.{image_is}
use Rattle.code_lower.proofs.Extents.{operands_within, deepest_within}
use Rattle.code_lower.proofs.Whole.{size_fits, length_is, is_shaped, emitted_is, built_is}
use Rattle.code_lower.proofs.lower.lower_labelled.Goals as goal

pub list_extent-extent-requires : goal.list_extent-extent-requires
list_extent-extent-requires c =
    let s = ap (λ z. size z) c.body.ensures.body in
    let f = size_fits c.program-program.result.now c.body.ensures.valid in
    omega (arith, s, f)

pub overflow_add-count : goal.overflow_add-count
overflow_add-count c =
    let s = ap (λ z. size z) c.body.ensures.body in
    let f = size_fits c.program-program.result.now c.body.ensures.valid in
    let x = c.list_extent-extent.ensures.size in
    omega (arith, s, f, x)

pub returns-then-is_too_long-clause-fault : goal.returns-then-is_too_long-clause-fault
returns-then-is_too_long-clause-fault c =
    let p = c.args.labelled.now in
    let s = ap (λ z. size z) c.body.ensures.body in
    let same = ap (λ z. size z.plan) (c.program-program.ensures.program) in
    let x = c.list_extent-extent.ensures.size in
    let l = length_is p in
    let t = MatchBool-at_true _ _ c.if-is_too_long.true c.is_too_long.ensures in
    (omega arith, omega (arith, s, same, x, l))

pub overflow_cast-extent : goal.overflow_cast-extent
overflow_cast-extent c =
    let x = c.list_extent-extent.ensures.size in
    let y = c.list_extent-extent.ensures.operands in
    let w = operands_within (list_plan c.body.result.now) in
    let f = MatchBool-at_false _ _ c.if-is_too_long.false c.is_too_long.ensures in
    omega arith

pub overflow_cast-extent-2 : goal.overflow_cast-extent-2
overflow_cast-extent-2 c =
    let x = c.list_extent-extent.ensures.size in
    let y = c.list_extent-extent.ensures.nesting in
    let w = deepest_within (list_plan c.body.result.now) in
    let f = MatchBool-at_false _ _ c.if-is_too_long.false c.is_too_long.ensures in
    omega arith

pub of-requires : goal.of-requires
of-requires c =
    let p = c.args.labelled.now in
    let hp = c.program-program.ensures.program in
    let ho = c.lattice-order.ensures ∙ ap (λ z. z.order) hp in
    let hb = c.body.ensures.body ∙ ap (λ z. z.plan) hp in
    let hx = c.in_ok-lattice.ensures.cases ∙ c.shared_lattice.ensures ∙ ap (λ z. z.order) hp in
    let is =
    emitted_is p c.lattice-order.result.now c.labels.result.now c.body-2.result.now c.in_ok-code.code.items c.emit_list.new.code.items
    c.put.new.code.items c.bottom-bottom.result
    ho (c.labels.ensures) (c.body-2.ensures.body ∙ ap (λ z. z.plan) hp) c.bottom-bottom.ensures.value c.in_ok-code.ensures.items
    c.in_ok-emit_list.ensures.code c.in_ok-put.ensures in
    let hv = c.variables-variables.ensures.value ∙ ap (λ z. variables z.declarations) hp in
    let built = built_is p c.put.new.code.items c.variables-variables.result c.in_ok-lattice.lattice.value c.list_extent-extent.result
    c.body.result.now is hv hx hb
    c.list_extent-extent.ensures in
    let s = ap (λ z. size z) hb in
    let x = c.list_extent-extent.ensures.size in
    let l = length_is p in
    let f = MatchBool-at_false _ _ c.if-is_too_long.false c.is_too_long.ensures in
    let small : length (lowered p).instrs ≤ 200000 = omega (arith, s, x, l, f) in
    subst IsShaped (sym built)
    (is_shaped p (subst IsValid hp c.body.ensures.valid) c.program-program.ensures.labelling small)

pub returns-clause-image : goal.returns-clause-image
returns-clause-image c =
    let p = c.args.labelled.now in
    let hp = c.program-program.ensures.program in
    let ho = c.lattice-order.ensures ∙ ap (λ z. z.order) hp in
    let hb = c.body.ensures.body ∙ ap (λ z. z.plan) hp in
    let hx = c.in_ok-lattice.ensures.cases ∙ c.shared_lattice.ensures ∙ ap (λ z. z.order) hp in
    let is =
    emitted_is p c.lattice-order.result.now c.labels.result.now c.body-2.result.now c.in_ok-code.code.items c.emit_list.new.code.items
    c.put.new.code.items c.bottom-bottom.result
    ho (c.labels.ensures) (c.body-2.ensures.body ∙ ap (λ z. z.plan) hp) c.bottom-bottom.ensures.value c.in_ok-code.ensures.items
    c.in_ok-emit_list.ensures.code c.in_ok-put.ensures in
    let hv = c.variables-variables.ensures.value ∙ ap (λ z. variables z.declarations) hp in
    let built = built_is p c.put.new.code.items c.variables-variables.result c.in_ok-lattice.lattice.value c.list_extent-extent.result
    c.body.result.now is hv hx hb
    c.list_extent-extent.ensures in
    c.of.ensures ∙ built

pub returns-clause-stands : goal.returns-clause-stands
returns-clause-stands c =
    let p = c.args.labelled.now in
    let hp = c.program-program.ensures.program in
    let ho = c.lattice-order.ensures ∙ ap (λ z. z.order) hp in
    let hb = c.body.ensures.body ∙ ap (λ z. z.plan) hp in
    let hx = c.in_ok-lattice.ensures.cases ∙ c.shared_lattice.ensures ∙ ap (λ z. z.order) hp in
    let is =
    emitted_is p c.lattice-order.result.now c.labels.result.now c.body-2.result.now c.in_ok-code.code.items c.emit_list.new.code.items
    c.put.new.code.items c.bottom-bottom.result
    ho (c.labels.ensures) (c.body-2.ensures.body ∙ ap (λ z. z.plan) hp) c.bottom-bottom.ensures.value c.in_ok-code.ensures.items
    c.in_ok-emit_list.ensures.code c.in_ok-put.ensures in
    let hv = c.variables-variables.ensures.value ∙ ap (λ z. variables z.declarations) hp in
    let built = built_is p c.put.new.code.items c.variables-variables.result c.in_ok-lattice.lattice.value c.list_extent-extent.result
    c.body.result.now is hv hx hb
    c.list_extent-extent.ensures in
    subst (λ (z : Code). IsImage (order_of p) (labels_of p) z.instrs (bare_of p)) (sym (c.of.ensures ∙ built)) (image_is (order_of p) (labels_of p) (bare_of p))

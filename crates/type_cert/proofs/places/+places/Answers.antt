use Rattle.std.proofs.Common.{ℕ, ◌≡◌, ◌+◌, ◌++◌, drop, length, refl, sym, ap, ◌∙◌, arith, append-nil}
use Rattle.std.proofs.lemmas.List.{drop_all}
use Rattle.label_lattice.specs.Order.{lattice_of}
use Rattle.mit_syntax.specs.Expression.{expression_of}
use Rattle.mit_syntax.specs.Plan.{Written, command_plan, list_plan, count}
use Rattle.timing_types.specs.Labelling.{label_at}
use Rattle.timing_types.proofs.Parts.{if_parts, while_parts, mitigate_parts, if_count, while_count, mitigate_count, cut, cut_count}
use Rattle.type_cert.specs.declared.place.Start.TheVariants.{After}
use Rattle.type_cert.specs.Places.{places, last_of}
use Rattle.type_cert.proofs.Placing.{if_places, while_places, mitigate_places, if_last, while_last, mitigate_last, pushed}
use Rattle.type_cert.proofs.places.+places.Goals as goal

pub command_places-returns-in_ok-list_places-in-If-clause-count : goal.command_places-returns-in_ok-list_places-in-If-clause-count
command_places-returns-in_ok-list_places-in-If-clause-count t c =
    let w : Written = record { pos = c.args.c.now.pos; labels = c.args.c.now.labels } in
    let n = if_count c.args.c.now.form c.in-If.guard c.in-If.then_part c.in-If.else_part c.deref.result.now c.deref-in-If.result.now c.in-If.is
    c.deref.ensures.value c.deref-in-If.ensures.value w in
    let p = pushed c.args.found.now.items c.push-in-If.new.self.items _ c.in_ok-push-in-If.ensures.items in
    let a = c.in_ok-then_last-in-If.ensures.count in
    let b = c.in_ok-list_places-in-If.ensures.count in
    omega (arith, n, p, a, b)

pub command_places-returns-in_ok-list_places-in-If-clause-places : goal.command_places-returns-in_ok-list_places-in-If-clause-places
command_places-returns-in_ok-list_places-in-If-clause-places t c =
    let w : Written = record { pos = c.args.c.now.pos; labels = c.args.c.now.labels } in
    let o = c.args.order.now in
    λ rest last h.
    let q = if_parts c.args.c.now.form c.in-If.guard c.in-If.then_part c.in-If.else_part c.deref.result.now c.deref-in-If.result.now c.in-If.is
    c.deref.ensures.value c.deref-in-If.ensures.value w rest in
    if_places (lattice_of o) (label_at o.bottom c.args.variables.now) w (expression_of c.in-If.guard) c.args.pc c.label-le-in-If.result c.join-in-If.result
    c.index_label-in-If.result c.args.start c.args.close
    c.args.found.now.items c.label-le-in-If.ensures c.index_label-in-If.ensures c.join-in-If.ensures.value c.len-number.result
    (c.len-number.ensures ∙ c.args.found.now.ok.0)
    (command_plan c.args.c.now rest) (list_plan c.deref.result.now) (list_plan c.deref-in-If.result.now) rest c.join-inner.result _ c.push-in-If.new.self.items
    c.list_places.new.found.items c.list_places-in-If.new.found.items
    last c.in_ok-then_last-in-If.then_last q h c.join-inner.ensures.value refl c.in_ok-push-in-If.ensures.items c.in_ok-then_last-in-If.ensures.places
    c.in_ok-then_last-in-If.ensures.last c.in_ok-list_places-in-If.ensures.places

pub command_places-returns-in_ok-list_places-in-If-clause-last : goal.command_places-returns-in_ok-list_places-in-If-clause-last
command_places-returns-in_ok-list_places-in-If-clause-last t c =
    let w : Written = record { pos = c.args.c.now.pos; labels = c.args.c.now.labels } in
    let n = if_count c.args.c.now.form c.in-If.guard c.in-If.then_part c.in-If.else_part c.deref.result.now c.deref-in-If.result.now c.in-If.is
    c.deref.ensures.value c.deref-in-If.ensures.value w in
    let p = pushed c.args.found.now.items c.push-in-If.new.self.items _ c.in_ok-push-in-If.ensures.items in
    let a = c.in_ok-then_last-in-If.ensures.count in
    let b = c.in_ok-list_places-in-If.ensures.count in
    λ rest last.
    let q = if_parts c.args.c.now.form c.in-If.guard c.in-If.then_part c.in-If.else_part c.deref.result.now c.deref-in-If.result.now c.in-If.is
    c.deref.ensures.value c.deref-in-If.ensures.value w rest in
    if_last w (expression_of c.in-If.guard) (command_plan c.args.c.now rest) (list_plan c.deref.result.now) (list_plan c.deref-in-If.result.now) rest
    (length c.args.found.now.items) (length c.list_places-in-If.new.found.items) last q (omega (arith, p, a, b))

pub command_places-returns-in_ok-list_places-in-While-clause-count : goal.command_places-returns-in_ok-list_places-in-While-clause-count
command_places-returns-in_ok-list_places-in-While-clause-count t c =
    let w : Written = record { pos = c.args.c.now.pos; labels = c.args.c.now.labels } in
    let n = while_count c.args.c.now.form c.in-While.guard c.in-While.body c.deref-in-While.result.now c.in-While.is c.deref-in-While.ensures.value w in
    let p = pushed c.args.found.now.items c.push-in-While.new.self.items _ c.in_ok-push-in-While.ensures.items in
    let a = c.in_ok-list_places-in-While.ensures.count in
    omega (arith, n, p, a)

pub command_places-returns-in_ok-list_places-in-While-clause-places : goal.command_places-returns-in_ok-list_places-in-While-clause-places
command_places-returns-in_ok-list_places-in-While-clause-places t c =
    let w : Written = record { pos = c.args.c.now.pos; labels = c.args.c.now.labels } in
    let o = c.args.order.now in
    λ rest last h.
    let q = while_parts c.args.c.now.form c.in-While.guard c.in-While.body c.deref-in-While.result.now c.in-While.is c.deref-in-While.ensures.value w rest in
    while_places (lattice_of o) (label_at o.bottom c.args.variables.now) w (expression_of c.in-While.guard) c.args.pc c.label-le-in-While.result
    c.join-in-While.result c.index_label-in-While.result c.args.start c.args.close
    c.args.found.now.items c.label-le-in-While.ensures c.index_label-in-While.ensures c.join-in-While.ensures.value c.len-number.result
    (c.len-number.ensures ∙ c.args.found.now.ok.0)
    (command_plan c.args.c.now rest) (list_plan c.deref-in-While.result.now) rest c.join-inner-in-While.result _ c.push-in-While.new.self.items
    c.list_places-in-While.new.found.items
    last q h c.join-inner-in-While.ensures.value refl c.in_ok-push-in-While.ensures.items c.in_ok-list_places-in-While.ensures.places

pub command_places-returns-in_ok-list_places-in-While-clause-last : goal.command_places-returns-in_ok-list_places-in-While-clause-last
command_places-returns-in_ok-list_places-in-While-clause-last t c =
    let w : Written = record { pos = c.args.c.now.pos; labels = c.args.c.now.labels } in
    let p = pushed c.args.found.now.items c.push-in-While.new.self.items _ c.in_ok-push-in-While.ensures.items in
    let a = c.in_ok-list_places-in-While.ensures.count in
    λ rest last.
    let q = while_parts c.args.c.now.form c.in-While.guard c.in-While.body c.deref-in-While.result.now c.in-While.is c.deref-in-While.ensures.value w rest in
    while_last w (expression_of c.in-While.guard) (command_plan c.args.c.now rest) (list_plan c.deref-in-While.result.now) rest (length c.args.found.now.items)
    (length c.list_places-in-While.new.found.items) last q (omega (arith, p, a))

pub command_places-returns-in_ok-list_places-in-Mitigate-clause-count : goal.command_places-returns-in_ok-list_places-in-Mitigate-clause-count
command_places-returns-in_ok-list_places-in-Mitigate-clause-count t c =
    let w : Written = record { pos = c.args.c.now.pos; labels = c.args.c.now.labels } in
    let n = mitigate_count c.args.c.now.form c.in-Mitigate.mark c.in-Mitigate.estimate c.in-Mitigate.level c.in-Mitigate.body c.deref-in-Mitigate.result.now
    c.in-Mitigate.is c.deref-in-Mitigate.ensures.value w in
    let p = pushed c.args.found.now.items c.push-in-Mitigate.new.self.items _ c.in_ok-push-in-Mitigate.ensures.items in
    let a = c.in_ok-list_places-in-Mitigate.ensures.count in
    omega (arith, n, p, a)

pub command_places-returns-in_ok-list_places-in-Mitigate-clause-places : goal.command_places-returns-in_ok-list_places-in-Mitigate-clause-places
command_places-returns-in_ok-list_places-in-Mitigate-clause-places t c =
    let w : Written = record { pos = c.args.c.now.pos; labels = c.args.c.now.labels } in
    let o = c.args.order.now in
    λ rest last h.
    let q = mitigate_parts c.args.c.now.form c.in-Mitigate.mark c.in-Mitigate.estimate c.in-Mitigate.level c.in-Mitigate.body c.deref-in-Mitigate.result.now
    c.in-Mitigate.is c.deref-in-Mitigate.ensures.value w rest in
    mitigate_places (lattice_of o) (label_at o.bottom c.args.variables.now) w (expression_of c.in-Mitigate.estimate) c.args.pc c.label-le-in-Mitigate.result
    c.join-in-Mitigate.result c.index_label-in-Mitigate.result c.args.start c.args.close
    c.args.found.now.items c.label-le-in-Mitigate.ensures c.index_label-in-Mitigate.ensures c.join-in-Mitigate.ensures.value c.len-number.result
    (c.len-number.ensures ∙ c.args.found.now.ok.0)
    c.in-Mitigate.mark c.in-Mitigate.level (command_plan c.args.c.now rest) (list_plan c.deref-in-Mitigate.result.now) rest _ c.push-in-Mitigate.new.self.items
    c.list_places-in-Mitigate.new.found.items
    last q h refl c.in_ok-push-in-Mitigate.ensures.items c.in_ok-list_places-in-Mitigate.ensures.places

pub command_places-returns-in_ok-list_places-in-Mitigate-clause-last : goal.command_places-returns-in_ok-list_places-in-Mitigate-clause-last
command_places-returns-in_ok-list_places-in-Mitigate-clause-last t c =
    let w : Written = record { pos = c.args.c.now.pos; labels = c.args.c.now.labels } in
    let p = pushed c.args.found.now.items c.push-in-Mitigate.new.self.items _ c.in_ok-push-in-Mitigate.ensures.items in
    let a = c.in_ok-list_places-in-Mitigate.ensures.count in
    λ rest last.
    let q = mitigate_parts c.args.c.now.form c.in-Mitigate.mark c.in-Mitigate.estimate c.in-Mitigate.level c.in-Mitigate.body c.deref-in-Mitigate.result.now
    c.in-Mitigate.is c.deref-in-Mitigate.ensures.value w rest in
    mitigate_last w c.in-Mitigate.mark c.in-Mitigate.level (expression_of c.in-Mitigate.estimate) (command_plan c.args.c.now rest)
    (list_plan c.deref-in-Mitigate.result.now) rest
    (length c.args.found.now.items) (length c.list_places-in-Mitigate.new.found.items) last q (omega (arith, p, a))

pub list_places-loop-k-preserved : goal.list_places-loop-k-preserved
list_places-loop-k-preserved t c =
    let o = c.args.order.now in
    let lat = lattice_of o in
    let g = label_at o.bottom c.args.variables.now in
    let cs = c.args.commands.now in
    let k = c.loop-k.k in
    let f = c.loop-k.found.items in
    let u = cut cs k c.index-commands-k.result c.loop-k-test.true c.index-commands-k.is in
    let n = cut_count cs k c.index-commands-k.result c.loop-k-test.true c.index-commands-k.is in
    let i = c.loop-k.invariant.count in
    let m = c.in_ok-command_places.ensures.count in
    let last : c.len-last-in-loop-k.result ≡ length f = c.len-last-in-loop-k.ensures ∙ c.loop-k.found.ok.0 in
    let new = c.command_places.new.found.items in
    let rest = list_plan (drop (k + 1) cs) in
    record {
      count = omega (arith, n, i, m);
      places =
          c.loop-k.invariant.places ∙ ap (λ z. f ++ places lat g (list_plan z) (length f) c.args.pc.number c.loop-k.from c.args.close) u
          ∙ c.in_ok-command_places.ensures.places rest c.args.close c.closing.ensures
          ∙ ap (λ (z : ℕ). new ++ places lat g rest (length new) c.args.pc.number (After z) c.args.close) (sym last);
      last =
          c.loop-k.invariant.last ∙ ap (λ z. last_of (list_plan z) (length f) c.loop-k.last) u ∙ c.in_ok-command_places.ensures.last rest c.loop-k.last
          ∙ ap (λ (z : ℕ). last_of rest (length new) z) (sym last);
    }

pub list_places-returns-clause-places : goal.list_places-returns-clause-places
list_places-returns-clause-places t c =
    let cs = c.args.commands.now in
    let e = drop_all c.loop-k.k cs c.loop-k-test.false in
    let f = c.loop-k.found.items in
    let o = c.args.order.now in
    sym (append-nil f) ∙ sym (c.loop-k.invariant.places
    ∙ ap (λ z. f ++ places (lattice_of o) (label_at o.bottom c.args.variables.now) (list_plan z) (length f) c.args.pc.number c.loop-k.from c.args.close) e)

pub list_places-returns-clause-last : goal.list_places-returns-clause-last
list_places-returns-clause-last t c =
    let cs = c.args.commands.now in
    let e = drop_all c.loop-k.k cs c.loop-k-test.false in
    sym (c.loop-k.invariant.last ∙ ap (λ z. last_of (list_plan z) (length c.loop-k.found.items) c.loop-k.last) e)

pub list_places-returns-clause-count : goal.list_places-returns-clause-count
list_places-returns-clause-count t c =
    let cs = c.args.commands.now in
    let e = ap (λ z. count (list_plan z)) (drop_all c.loop-k.k cs c.loop-k-test.false) in
    omega (arith, e, c.loop-k.invariant.count)

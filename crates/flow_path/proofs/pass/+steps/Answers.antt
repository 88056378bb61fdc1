use Rattle.std.proofs.Common.{rules, ◌≡◌, ◌+◌, ◌*◌, ◌<◌, [], ◌++◌, refl, ap, ◌∙◌, sym, subst, arith, drop}
use Rattle.std.specs.Prelude.{true}
use Rattle.std.proofs.lemmas.List.{drop_all}
use Rattle.mit_syntax.specs.Expression.{expression_of}
use Rattle.mit_syntax.specs.Todo.{Done}
use Rattle.mit_syntax.specs.Plan.{Written, form_plan, command_plan, list_plan, form_count, count}
use Rattle.timing_types.proofs.Parts.{if_parts, while_parts, mitigate_parts, if_count, while_count, mitigate_count, cut, cut_count, drop_count}
use Rattle.timing_types.specs.declared.rule.Rule.TheVariants.{Skip as RSkip, Sleep as RSleep}
use Rattle.flow_path.specs.declared.step.Spot.TheVariants.{Variable as OfVariable}
use Rattle.flow_path.specs.declared.step.How.TheVariants.{Reads, ReadsInIndex, HasReadLabel, AfterReadLabel}
use Rattle.flow_path.specs.Steps.{reads, index_reads, read_label, after, after_set, after_put, ends, steps_by}
use Rattle.flow_path.specs.Distances.{ComesTo, Passes, IsTimeOf}
use Rattle.flow_path.proofs.Passing.{comes_none, comes_by, comes_if, comes_while, comes_then}
use Rattle.flow_path.proofs.Staying.{then_time, else_time, body_time, free_time, next_time}
use Rattle.flow_path.proofs.Passing.{passes_none, passes_then, passes_plain, passes_set, passes_if, passes_while, passes_mitigate}
use Rattle.flow_path.proofs.pass.+steps.Goals as goal

pub command_pass-returns-in-Skip-clause-passes : goal.command_pass-returns-in-Skip-clause-passes
command_pass-returns-in-Skip-clause-passes t c =
    let r = c.args.round.now in
    let w : Written = record { pos = c.args.c.now.pos; labels = c.args.c.now.labels } in
    λ rest.
    let q = ap (λ z. form_plan z w rest) c.in-Skip.is in
    passes_plain r.program.now r.target.now r.known.now.variables.items c.args.sides.now c.add_label.new.self c.args.pc c.args.t c.args.pc
    c.after_skip.result (command_plan c.args.c.now rest) rest RSkip w.pos w.labels
    (λ P. P) (λ T. T ++ read_label AfterReadLabel w.pos w.labels) (λ P h. h) c.after_skip.ensures (c.add_label.ensures r.known.now.variables.items)
    (λ P T. ap (λ z. steps_by z P T) q) (λ T. ap (λ z. ends z T) q)

pub command_pass-returns-in-Sleep-clause-passes : goal.command_pass-returns-in-Sleep-clause-passes
command_pass-returns-in-Sleep-clause-passes t c =
    let r = c.args.round.now in
    let w : Written = record { pos = c.args.c.now.pos; labels = c.args.c.now.labels } in
    let e = expression_of c.in-Sleep.time in
    λ rest.
    let q = ap (λ z. form_plan z w rest) c.in-Sleep.is in
    passes_plain r.program.now r.target.now r.known.now.variables.items c.args.sides.now c.add_label-in-Sleep.new.self c.args.pc c.args.t
    c.here-own-in-Sleep.result c.after.result (command_plan c.args.c.now rest) rest RSleep w.pos w.labels
    (λ P. P ++ index_reads w.pos e) (λ T. after T w e) c.here-own-in-Sleep.ensures c.after.ensures
    (c.add_label-in-Sleep.ensures r.known.now.variables.items)
    (λ P T. ap (λ z. steps_by z P T) q) (λ T. ap (λ z. ends z T) q)

pub command_pass-returns-in-Assign-clause-passes : goal.command_pass-returns-in-Assign-clause-passes
command_pass-returns-in-Assign-clause-passes t c =
    let r = c.args.round.now in
    let w : Written = record { pos = c.args.c.now.pos; labels = c.args.c.now.labels } in
    let e = expression_of c.in-Assign.value in
    λ rest.
    let q = ap (λ z. form_plan z w rest) c.in-Assign.is in
    passes_set r.program.now r.target.now r.known.now.variables.items c.args.sides.now c.add.new.self c.add_label-in-Assign.new.self c.args.pc c.args.t
    c.set_left-left.result c.here-own.result c.after_set.result
    (command_plan c.args.c.now rest) rest w.pos (OfVariable c.in-Assign.variable) w.labels
    (λ P T. reads Reads w.pos e ++ (P ++ (read_label HasReadLabel w.pos w.labels ++ T))) (λ P. P ++ index_reads w.pos e)
    (λ T. after_set T w c.in-Assign.variable e)
    c.set_left-left.ensures c.here-own.ensures c.after_set.ensures (c.add.ensures r.known.now.variables.items)
    (c.add_label-in-Assign.ensures r.known.now.variables.items)
    (λ P T. ap (λ z. steps_by z P T) q) (λ T. ap (λ z. ends z T) q)

pub command_pass-returns-in-Put-clause-passes : goal.command_pass-returns-in-Put-clause-passes
command_pass-returns-in-Put-clause-passes t c =
    let r = c.args.round.now in
    let w : Written = record { pos = c.args.c.now.pos; labels = c.args.c.now.labels } in
    let n = expression_of c.in-Put.index in
    let e = expression_of c.in-Put.value in
    λ rest.
    let q = ap (λ z. form_plan z w rest) c.in-Put.is in
    passes_set r.program.now r.target.now r.known.now.variables.items c.args.sides.now c.add-in-Put.new.self c.add_label-in-Put.new.self c.args.pc
    c.args.t c.put_left-left.result c.put_here-own.result c.after_put.result
    (command_plan c.args.c.now rest) rest w.pos (OfVariable c.in-Put.first) w.labels
    (λ P T. reads Reads w.pos e ++ (reads ReadsInIndex w.pos n ++ (P ++ (read_label HasReadLabel w.pos w.labels ++ T))))
    (λ P. P ++ (reads ReadsInIndex w.pos n ++ index_reads w.pos e)) (λ T. after_put T w c.in-Put.first n e)
    c.put_left-left.ensures c.put_here-own.ensures c.after_put.ensures (c.add-in-Put.ensures r.known.now.variables.items)
    (c.add_label-in-Put.ensures r.known.now.variables.items)
    (λ P T. ap (λ z. steps_by z P T) q) (λ T. ap (λ z. ends z T) q)

pub command_pass-returns-in-If-clause-passes : goal.command_pass-returns-in-If-clause-passes
command_pass-returns-in-If-clause-passes t c =
    let r = c.args.round.now in
    let w : Written = record { pos = c.args.c.now.pos; labels = c.args.c.now.labels } in
    λ rest.
    let q = if_parts c.args.c.now.form c.in-If.guard c.in-If.then_part c.in-If.else_part c.deref.result.now c.deref-in-If.result.now c.in-If.is
    c.deref.ensures.value c.deref-in-If.ensures.value w rest in
    passes_if r.program.now r.target.now r.known.now.variables.items c.args.sides.now c.add_label-in-If.new.self
    c.list_pass-one.new.sides c.list_pass-other.new.sides
    c.args.pc c.args.t c.here-own-in-If.result c.after-start.result c.inside-inner.result c.list_pass-one.result c.list_pass-other.result c.better.result
    (command_plan c.args.c.now rest) (list_plan c.deref.result.now) (list_plan c.deref-in-If.result.now) rest w (expression_of c.in-If.guard) q
    c.here-own-in-If.ensures (c.add_label-in-If.ensures r.known.now.variables.items) c.after-start.ensures c.inside-inner.ensures c.list_pass-one.ensures.passes
    c.list_pass-other.ensures.passes (c.better.ensures r.program.now r.target.now r.known.now.variables.items)

pub command_pass-returns-in-While-clause-passes : goal.command_pass-returns-in-While-clause-passes
command_pass-returns-in-While-clause-passes t c =
    let r = c.args.round.now in
    let w : Written = record { pos = c.args.c.now.pos; labels = c.args.c.now.labels } in
    let body = c.deref-in-While-2.result.now in
    let same = c.deref-in-While.ensures.value ∙ sym c.deref-in-While-2.ensures.value in
    let en = subst (λ z. ComesTo r.program.now r.target.now r.known.now.variables.items c.after-start-in-While.result c.loop_end-end.result
    (list_plan z) Done) same c.loop_end-end.ensures.end in
    λ rest.
    let q = while_parts c.args.c.now.form c.in-While.guard c.in-While.body c.deref-in-While-2.result.now c.in-While.is
    c.deref-in-While-2.ensures.value w rest in
    passes_while r.program.now r.target.now r.known.now.variables.items c.args.sides.now c.add_label-in-While.new.self c.list_pass-again.new.sides
    c.args.pc c.args.t c.here-own-in-While.result c.after-start-in-While.result c.loop_end-end.result c.inside-inner-in-While.result c.list_pass-again.result
    (command_plan c.args.c.now rest) (list_plan body) rest w (expression_of c.in-While.guard) q
    c.here-own-in-While.ensures (c.add_label-in-While.ensures r.known.now.variables.items) c.after-start-in-While.ensures en
    c.inside-inner-in-While.ensures c.list_pass-again.ensures.passes

pub command_pass-returns-in-Mitigate-clause-passes : goal.command_pass-returns-in-Mitigate-clause-passes
command_pass-returns-in-Mitigate-clause-passes t c =
    let r = c.args.round.now in
    let w : Written = record { pos = c.args.c.now.pos; labels = c.args.c.now.labels } in
    λ rest.
    let q = mitigate_parts c.args.c.now.form c.in-Mitigate.mark c.in-Mitigate.estimate c.in-Mitigate.level c.in-Mitigate.body c.deref-in-Mitigate.result.now
    c.in-Mitigate.is c.deref-in-Mitigate.ensures.value w rest in
    passes_mitigate r.program.now r.target.now r.known.now.variables.items c.args.sides.now c.add_label-in-Mitigate.new.self
    c.list_pass-last.new.sides c.add-in-Mitigate.new.self
    c.args.pc c.args.t c.here-own-in-Mitigate.result c.after-start-in-Mitigate.result c.list_pass-last.result c.in-Mitigate.mark c.in-Mitigate.level
    (command_plan c.args.c.now rest) (list_plan c.deref-in-Mitigate.result.now) rest w (expression_of c.in-Mitigate.estimate) q
    c.here-own-in-Mitigate.ensures (c.add_label-in-Mitigate.ensures r.known.now.variables.items) c.after-start-in-Mitigate.ensures
    c.list_pass-last.ensures.passes
    (c.add-in-Mitigate.ensures r.known.now.variables.items)

pub list_pass-loop-c-init : goal.list_pass-loop-c-init
list_pass-loop-c-init t c =
    let r = c.args.round.now in
    record {
      passes = passes_none r.program.now r.target.now r.known.now.variables.items c.args.sides.now c.args.pc c.args.t (list_plan c.args.commands.now);
      comes = comes_none r.program.now r.target.now r.known.now.variables.items c.args.t (list_plan c.args.commands.now);
      time = c.requires.time;
    }

pub list_pass-loop-c-preserved : goal.list_pass-loop-c-preserved
list_pass-loop-c-preserved t c =
    let r = c.args.round.now in
    let ds = r.known.now.variables.items in
    let cs = c.args.commands.now in
    let more = list_plan (drop (c.loop-c.c-index + 1) c.args.commands.now) in
    let e : list_plan (drop c.loop-c.c-index c.args.commands.now) ≡ command_plan c.c-item.result (list_plan (drop (c.loop-c.c-index + 1) c.args.commands.now)) =
    ap list_plan (cut cs c.loop-c.c-index c.c-item.result c.loop-c-test.true c.c-item.is) in
    let h = subst (λ z. Passes r.program.now r.target.now r.known.now.variables.items c.args.sides.now c.loop-c.sides c.args.pc c.args.t c.loop-c.end
    (list_plan c.args.commands.now) z) e c.loop-c.invariant.passes in
    let k = subst (λ z. ComesTo r.program.now r.target.now r.known.now.variables.items c.args.t c.loop-c.end (list_plan c.args.commands.now) z) e
    c.loop-c.invariant.comes in
    let time = subst (λ z. IsTimeOf c.args.round.now c.loop-c.end (ends z []) c.args.stays) e c.loop-c.invariant.time in
    record {
      passes = passes_then r.program.now r.target.now ds c.args.sides.now c.loop-c.sides c.command_pass-end.new.sides c.args.pc c.args.t
          c.loop-c.end c.command_pass-end.result
          (list_plan c.args.commands.now) (command_plan c.c-item.result more) more h (c.command_pass-end.ensures.passes more);
      comes = comes_then r.program.now r.target.now ds c.args.t c.loop-c.end c.command_pass-end.result (list_plan c.args.commands.now)
          (command_plan c.c-item.result more) more k (c.command_pass-end.ensures.comes more);
      time = next_time r.program.now r.target.now ds c.loop-c.end c.command_pass-end.result c.args.stays (command_plan c.c-item.result Done)
          (command_plan c.c-item.result more) more (c.command_pass-end.ensures.comes Done) (c.command_pass-end.ensures.comes more) time;
    }

pub list_pass-returns-clause-passes : goal.list_pass-returns-clause-passes
list_pass-returns-clause-passes t c =
    let r = c.args.round.now in
    subst
    (λ z. Passes r.program.now r.target.now r.known.now.variables.items c.args.sides.now c.loop-c.sides c.args.pc c.args.t c.loop-c.end
    (list_plan c.args.commands.now) (list_plan z))
    (drop_all c.loop-c.c-index c.args.commands.now c.loop-c-test.false) c.loop-c.invariant.passes

pub list_pass-returns-clause-comes : goal.list_pass-returns-clause-comes
list_pass-returns-clause-comes t c =
    let r = c.args.round.now in
    subst
    (λ z. ComesTo r.program.now r.target.now r.known.now.variables.items c.args.t c.loop-c.end (list_plan c.args.commands.now) (list_plan z))
    (drop_all c.loop-c.c-index c.args.commands.now c.loop-c-test.false) c.loop-c.invariant.comes

pub command_pass-list_pass-one-requires : goal.command_pass-list_pass-one-requires
command_pass-list_pass-one-requires t c =
    let w : Written = record { pos = c.args.c.now.pos; labels = c.args.c.now.labels } in
    let d = c.decreases in
    let n = if_count c.args.c.now.form c.in-If.guard c.in-If.then_part c.in-If.else_part c.deref.result.now c.in-If.else_part.items c.in-If.is
    c.deref.ensures.value refl w in
    let smaller : 2 * count (list_plan c.deref.result.now) + 1 < 2 * form_count c.args.c.now.form w = omega arith in
    let r = c.args.round.now in
    let q = if_parts c.args.c.now.form c.in-If.guard c.in-If.then_part c.in-If.else_part c.deref.result.now c.in-If.else_part.items c.in-If.is
    c.deref.ensures.value refl w c.requires.time.0 in (
      search rules,
      (
        c.requires.known,
        then_time r.program.now r.target.now r.known.now.variables.items c.args.t c.after-start.result c.args.stays w (expression_of c.in-If.guard)
            (list_plan c.deref.result.now) (list_plan c.in-If.else_part.items) c.requires.time.0 (command_plan c.args.c.now c.requires.time.0) q
            c.after-start.ensures c.requires.time.1,
      ),
    )

pub command_pass-list_pass-other-requires : goal.command_pass-list_pass-other-requires
command_pass-list_pass-other-requires t c =
    let w : Written = record { pos = c.args.c.now.pos; labels = c.args.c.now.labels } in
    let d = c.decreases in
    let n = if_count c.args.c.now.form c.in-If.guard c.in-If.then_part c.in-If.else_part c.deref.result.now c.deref-in-If.result.now c.in-If.is
    c.deref.ensures.value c.deref-in-If.ensures.value w in
    let smaller : 2 * count (list_plan c.deref-in-If.result.now) + 1 < 2 * form_count c.args.c.now.form w = omega arith in
    let r = c.args.round.now in
    let q = if_parts c.args.c.now.form c.in-If.guard c.in-If.then_part c.in-If.else_part c.deref.result.now c.deref-in-If.result.now c.in-If.is
    c.deref.ensures.value c.deref-in-If.ensures.value w c.requires.time.0 in (
      search rules,
      (
        c.requires.known,
        else_time r.program.now r.target.now r.known.now.variables.items c.args.t c.after-start.result c.args.stays w (expression_of c.in-If.guard)
            (list_plan c.deref.result.now) (list_plan c.deref-in-If.result.now) c.requires.time.0 (command_plan c.args.c.now c.requires.time.0) q
            c.after-start.ensures c.requires.time.1,
      ),
    )

pub command_pass-list_pass-again-requires : goal.command_pass-list_pass-again-requires
command_pass-list_pass-again-requires t c =
    let w : Written = record { pos = c.args.c.now.pos; labels = c.args.c.now.labels } in
    let d = c.decreases in
    let n = while_count c.args.c.now.form c.in-While.guard c.in-While.body c.deref-in-While-2.result.now c.in-While.is c.deref-in-While-2.ensures.value w in
    let smaller : 2 * count (list_plan c.deref-in-While-2.result.now) + 1 < 2 * form_count c.args.c.now.form w = omega arith in
    let same = c.deref-in-While.ensures.value ∙ sym c.deref-in-While-2.ensures.value in
    let time = subst (λ z. IsTimeOf c.args.round.now c.loop_end-end.result (ends (list_plan z) []) true) same c.loop_end-end.ensures.time in
    (search rules, (c.requires.known, time))

pub command_pass-list_pass-last-requires : goal.command_pass-list_pass-last-requires
command_pass-list_pass-last-requires t c =
    let w : Written = record { pos = c.args.c.now.pos; labels = c.args.c.now.labels } in
    let d = c.decreases in
    let n = mitigate_count c.args.c.now.form c.in-Mitigate.mark c.in-Mitigate.estimate c.in-Mitigate.level c.in-Mitigate.body c.deref-in-Mitigate.result.now
    c.in-Mitigate.is c.deref-in-Mitigate.ensures.value w in
    let smaller : 2 * count (list_plan c.deref-in-Mitigate.result.now) + 1 < 2 * form_count c.args.c.now.form w = omega arith in
    let r = c.args.round.now in (
      search rules,
      (
        c.requires.known,
        free_time r.program.now r.target.now r.known.now.variables.items c.args.t c.after-start-in-Mitigate.result c.args.stays w
            (expression_of c.in-Mitigate.estimate) (ends (command_plan c.args.c.now c.requires.time.0) [])
            (ends (list_plan c.deref-in-Mitigate.result.now) []) c.after-start-in-Mitigate.ensures c.requires.time.1,
      ),
    )

pub list_pass-command_pass-end-requires : goal.list_pass-command_pass-end-requires
list_pass-command_pass-end-requires t c =
    let w : Written = record { pos = c.c-item.result.pos; labels = c.c-item.result.labels } in
    let d = c.decreases in
    let n = cut_count c.args.commands.now c.loop-c.c-index c.c-item.result c.loop-c-test.true c.c-item.is in
    let all = drop_count c.args.commands.now c.loop-c.c-index in
    let smaller : 2 * form_count c.c-item.result.form w < 2 * count (list_plan c.args.commands.now) + 1 = omega arith in
    let e : list_plan (drop c.loop-c.c-index c.args.commands.now) ≡ command_plan c.c-item.result (list_plan (drop (c.loop-c.c-index + 1) c.args.commands.now)) =
    ap list_plan (cut c.args.commands.now c.loop-c.c-index c.c-item.result c.loop-c-test.true c.c-item.is) in
    let time = subst (λ z. IsTimeOf c.args.round.now c.loop-c.end (ends z []) c.args.stays) e c.loop-c.invariant.time in
    (search rules, (c.requires.known, (list_plan (drop (c.loop-c.c-index + 1) c.args.commands.now), time)))

pub command_pass-loop_end-end-requires : goal.command_pass-loop_end-end-requires
command_pass-loop_end-end-requires t c =
    let r = c.args.round.now in
    let w : Written = record { pos = c.args.c.now.pos; labels = c.args.c.now.labels } in
    let q = while_parts c.args.c.now.form c.in-While.guard c.in-While.body c.deref-in-While.result.now c.in-While.is
    c.deref-in-While.ensures.value w c.requires.time.0 in
    record {
      known = c.requires.known;
      time = body_time r.program.now r.target.now r.known.now.variables.items c.args.t c.after-start-in-While.result c.args.stays w
          (expression_of c.in-While.guard) (list_plan c.deref-in-While.result.now) c.requires.time.0 (command_plan c.args.c.now c.requires.time.0) q
          c.after-start-in-While.ensures c.requires.time.1;
    }

pub command_pass-returns-in-Skip-clause-comes : goal.command_pass-returns-in-Skip-clause-comes
command_pass-returns-in-Skip-clause-comes t c =
    let r = c.args.round.now in
    let w : Written = record { pos = c.args.c.now.pos; labels = c.args.c.now.labels } in
    λ rest.
    let q = ap (λ z. form_plan z w rest) c.in-Skip.is in
    comes_by r.program.now r.target.now r.known.now.variables.items c.args.t c.after_skip.result (command_plan c.args.c.now rest) rest
    (λ T. T ++ read_label AfterReadLabel w.pos w.labels) c.after_skip.ensures (λ T. ap (λ z. ends z T) q)

pub command_pass-returns-in-Assign-clause-comes : goal.command_pass-returns-in-Assign-clause-comes
command_pass-returns-in-Assign-clause-comes t c =
    let r = c.args.round.now in
    let w : Written = record { pos = c.args.c.now.pos; labels = c.args.c.now.labels } in
    λ rest.
    let q = ap (λ z. form_plan z w rest) c.in-Assign.is in
    comes_by r.program.now r.target.now r.known.now.variables.items c.args.t c.after_set.result (command_plan c.args.c.now rest) rest
    (λ T. after_set T w c.in-Assign.variable (expression_of c.in-Assign.value)) c.after_set.ensures (λ T. ap (λ z. ends z T) q)

pub command_pass-returns-in-Put-clause-comes : goal.command_pass-returns-in-Put-clause-comes
command_pass-returns-in-Put-clause-comes t c =
    let r = c.args.round.now in
    let w : Written = record { pos = c.args.c.now.pos; labels = c.args.c.now.labels } in
    λ rest.
    let q = ap (λ z. form_plan z w rest) c.in-Put.is in
    comes_by r.program.now r.target.now r.known.now.variables.items c.args.t c.after_put.result (command_plan c.args.c.now rest) rest
    (λ T. after_put T w c.in-Put.first (expression_of c.in-Put.index) (expression_of c.in-Put.value)) c.after_put.ensures (λ T. ap (λ z. ends z T) q)

pub command_pass-returns-in-Sleep-clause-comes : goal.command_pass-returns-in-Sleep-clause-comes
command_pass-returns-in-Sleep-clause-comes t c =
    let r = c.args.round.now in
    let w : Written = record { pos = c.args.c.now.pos; labels = c.args.c.now.labels } in
    λ rest.
    let q = ap (λ z. form_plan z w rest) c.in-Sleep.is in
    comes_by r.program.now r.target.now r.known.now.variables.items c.args.t c.after.result (command_plan c.args.c.now rest) rest
    (λ T. after T w (expression_of c.in-Sleep.time)) c.after.ensures (λ T. ap (λ z. ends z T) q)

pub command_pass-returns-in-Mitigate-clause-comes : goal.command_pass-returns-in-Mitigate-clause-comes
command_pass-returns-in-Mitigate-clause-comes t c =
    let r = c.args.round.now in
    let w : Written = record { pos = c.args.c.now.pos; labels = c.args.c.now.labels } in
    λ rest.
    let q = ap (λ z. form_plan z w rest) c.in-Mitigate.is in
    comes_by r.program.now r.target.now r.known.now.variables.items c.args.t c.after-start-in-Mitigate.result (command_plan c.args.c.now rest) rest
    (λ T. after T w (expression_of c.in-Mitigate.estimate)) c.after-start-in-Mitigate.ensures (λ T. ap (λ z. ends z T) q)

pub command_pass-returns-in-If-clause-comes : goal.command_pass-returns-in-If-clause-comes
command_pass-returns-in-If-clause-comes t c =
    let r = c.args.round.now in
    let w : Written = record { pos = c.args.c.now.pos; labels = c.args.c.now.labels } in
    λ rest.
    let q = if_parts c.args.c.now.form c.in-If.guard c.in-If.then_part c.in-If.else_part c.deref.result.now c.deref-in-If.result.now c.in-If.is
    c.deref.ensures.value c.deref-in-If.ensures.value w rest in
    comes_if r.program.now r.target.now r.known.now.variables.items c.args.t c.after-start.result c.list_pass-one.result c.list_pass-other.result
    c.better.result (command_plan c.args.c.now rest) (list_plan c.deref.result.now) (list_plan c.deref-in-If.result.now) rest w
    (expression_of c.in-If.guard)
    q c.after-start.ensures c.list_pass-one.ensures.comes c.list_pass-other.ensures.comes
    (c.better.ensures r.program.now r.target.now r.known.now.variables.items)

pub command_pass-returns-in-While-clause-comes : goal.command_pass-returns-in-While-clause-comes
command_pass-returns-in-While-clause-comes t c =
    let r = c.args.round.now in
    let w : Written = record { pos = c.args.c.now.pos; labels = c.args.c.now.labels } in
    λ rest.
    let q = while_parts c.args.c.now.form c.in-While.guard c.in-While.body c.deref-in-While.result.now c.in-While.is c.deref-in-While.ensures.value w rest in
    comes_while r.program.now r.target.now r.known.now.variables.items c.args.t c.after-start-in-While.result c.loop_end-end.result
    (command_plan c.args.c.now rest) (list_plan c.deref-in-While.result.now) rest w (expression_of c.in-While.guard)
    q c.after-start-in-While.ensures c.loop_end-end.ensures.end

use Rattle.std.proofs.Common.{rules, ◌≡◌, sym, ap, ◌∙◌, map, length, to_z, of_z, w64, inl, inr}
use Rattle.std.proofs.lemmas.Int.{to_z-of_z}
use Rattle.mit_syntax.specs.Values.{element}
use Rattle.source_meaning.proofs.Steps.{skip_step, sleep_step, assign_step, put_step, then_step, else_step, turn_step, done_step, mitigate_step}
use Rattle.source_meaning.proofs.Steps.{skip_going, sleep_going, assign_going, put_going, then_going, else_going, turn_going, done_going, mitigate_going}
use Rattle.source_meaning.proofs.obey.obey.Goals as goal

pub returns-in-Assign-clause-step : goal.returns-in-Assign-clause-step
returns-in-Assign-clause-step c =
    let n : (to_z w64 (of_z w64 c.value-n.result)) ≡ c.value-n.result = search (rules, to_z-of_z) in
    assign_step (map (λ f. f.now) c.args.frames.now.items) c.args.list.now c.args.command.now c.args.rest.now (map (λ f. f.now) c.leave.new.frames.items)
    c.args.memory.now c.requires.first c.in-Assign.variable c.in-Assign.e (to_z w64 (of_z w64 c.value-n.result)) c.in-Assign.is
    (n ∙ c.value-n.ensures) c.leave.ensures

pub returns-in-Assign-clause-going : goal.returns-in-Assign-clause-going
returns-in-Assign-clause-going c =
    assign_going (map (λ f. f.now) c.args.frames.now.items) c.args.list.now c.args.command.now c.args.rest.now (map (λ f. f.now) c.leave.new.frames.items)
    c.args.memory.now c.requires.first (length c.args.memory.now) c.requires.going c.requires.frame c.in-Assign.variable c.in-Assign.e
    c.in-Assign.is c.leave.ensures

pub returns-in-Put-clause-step : goal.returns-in-Put-clause-step
returns-in-Put-clause-step c =
    let n : (to_z w64 (of_z w64 c.value-n-in-Put.result)) ≡ c.value-n-in-Put.result = search (rules, to_z-of_z) in
    let i : (to_z w64 (of_z w64 c.value.result)) ≡ c.value.result = search (rules, to_z-of_z) in
    put_step (map (λ f. f.now) c.args.frames.now.items) c.args.list.now c.args.command.now c.args.rest.now (map (λ f. f.now) c.leave-in-Put.new.frames.items)
    c.args.memory.now c.requires.first c.in-Put.first c.in-Put.length c.in-Put.index c.in-Put.e c.element-x.result
    (to_z w64 (of_z w64 c.value-n-in-Put.result)) c.in-Put.is
    (c.element-x.ensures.value ∙ ap (element c.in-Put.first c.in-Put.length) (i ∙ c.value.ensures)) (n ∙ c.value-n-in-Put.ensures) c.leave-in-Put.ensures

pub returns-in-Put-clause-going : goal.returns-in-Put-clause-going
returns-in-Put-clause-going c =
    put_going (map (λ f. f.now) c.args.frames.now.items) c.args.list.now c.args.command.now c.args.rest.now (map (λ f. f.now) c.leave-in-Put.new.frames.items)
    c.args.memory.now c.requires.first (length c.args.memory.now) c.requires.going c.requires.frame c.in-Put.first c.in-Put.length c.in-Put.index c.in-Put.e
    c.in-Put.is c.leave-in-Put.ensures

pub returns-in_ok-enter-in-If-clause-step : goal.returns-in_ok-enter-in-If-clause-step
returns-in_ok-enter-in-If-clause-step c =
    then_step (map (λ f. f.now) c.args.frames.now.items) c.args.list.now c.args.command.now c.args.rest.now (map (λ f. f.now) c.enter.new.frames.items)
    c.args.memory.now c.requires.first c.in-If.guard c.in-If.then_part c.in-If.else_part c.deref.result.now c.value-in-If.result c.in-If.is
    c.value-in-If.ensures (λ e. c.if-value-ne0.true (ap (of_z w64) e)) c.deref.ensures.value c.in_ok-enter-in-If.ensures.ok

pub returns-in_ok-enter-in-If-clause-going : goal.returns-in_ok-enter-in-If-clause-going
returns-in_ok-enter-in-If-clause-going c =
    then_going (map (λ f. f.now) c.args.frames.now.items) c.args.list.now c.args.command.now c.args.rest.now (map (λ f. f.now) c.enter.new.frames.items)
    c.args.memory.now c.requires.first (length c.args.memory.now) c.requires.going c.requires.frame c.in-If.guard c.in-If.then_part c.in-If.else_part
    c.deref.result.now c.in-If.is c.deref.ensures.value c.in_ok-enter-in-If.ensures.ok

pub returns-in_ok-enter-in-If-2-clause-step : goal.returns-in_ok-enter-in-If-2-clause-step
returns-in_ok-enter-in-If-2-clause-step c =
    let n : (to_z w64 (of_z w64 c.value-in-If.result)) ≡ c.value-in-If.result = search (rules, to_z-of_z) in
    else_step (map (λ f. f.now) c.args.frames.now.items) c.args.list.now c.args.command.now c.args.rest.now
    (map (λ f. f.now) c.enter-else-value-ne0.new.frames.items) c.args.memory.now c.requires.first c.in-If.guard c.in-If.then_part c.in-If.else_part
    c.deref-else-value-ne0.result.now c.value-in-If.result c.in-If.is c.value-in-If.ensures (sym n ∙ ap (to_z w64) c.if-value-ne0.false)
    c.deref-else-value-ne0.ensures.value c.in_ok-enter-in-If-2.ensures.ok

pub returns-in_ok-enter-in-If-2-clause-going : goal.returns-in_ok-enter-in-If-2-clause-going
returns-in_ok-enter-in-If-2-clause-going c =
    else_going (map (λ f. f.now) c.args.frames.now.items) c.args.list.now c.args.command.now c.args.rest.now
    (map (λ f. f.now) c.enter-else-value-ne0.new.frames.items) c.args.memory.now c.requires.first (length c.args.memory.now) c.requires.going
    c.requires.frame c.in-If.guard c.in-If.then_part c.in-If.else_part c.deref-else-value-ne0.result.now c.in-If.is c.deref-else-value-ne0.ensures.value
    c.in_ok-enter-in-If-2.ensures.ok

pub returns-in_ok-enter-in-While-clause-step : goal.returns-in_ok-enter-in-While-clause-step
returns-in_ok-enter-in-While-clause-step c =
    turn_step (map (λ f. f.now) c.args.frames.now.items) c.args.list.now c.args.command.now c.args.rest.now
    (map (λ f. f.now) c.enter-then-value-ne0-2.new.frames.items) c.args.memory.now c.requires.first c.in-While.guard c.in-While.body
    c.deref-then-value-ne0-2.result.now c.value-in-While.result c.in-While.is c.value-in-While.ensures
    (λ e. c.if-value-ne0-2.true (ap (of_z w64) e)) c.deref-then-value-ne0-2.ensures.value c.in_ok-enter-in-While.ensures.ok

pub returns-in_ok-enter-in-While-clause-going : goal.returns-in_ok-enter-in-While-clause-going
returns-in_ok-enter-in-While-clause-going c =
    turn_going (map (λ f. f.now) c.args.frames.now.items) c.args.list.now c.args.command.now c.args.rest.now
    (map (λ f. f.now) c.enter-then-value-ne0-2.new.frames.items) c.args.memory.now c.requires.first (length c.args.memory.now) c.requires.going
    c.requires.frame c.in-While.guard c.in-While.body c.deref-then-value-ne0-2.result.now c.in-While.is c.deref-then-value-ne0-2.ensures.value
    c.in_ok-enter-in-While.ensures.ok

pub returns-else-value-ne0-2-clause-step : goal.returns-else-value-ne0-2-clause-step
returns-else-value-ne0-2-clause-step c =
    let n : (to_z w64 (of_z w64 c.value-in-While.result)) ≡ c.value-in-While.result = search (rules, to_z-of_z) in
    done_step (map (λ f. f.now) c.args.frames.now.items) c.args.list.now c.args.command.now c.args.rest.now
    (map (λ f. f.now) c.leave-else-value-ne0-2.new.frames.items) c.args.memory.now c.requires.first c.in-While.guard c.in-While.body c.value-in-While.result
    c.in-While.is c.value-in-While.ensures (sym n ∙ ap (to_z w64) c.if-value-ne0-2.false) c.leave-else-value-ne0-2.ensures

pub returns-else-value-ne0-2-clause-going : goal.returns-else-value-ne0-2-clause-going
returns-else-value-ne0-2-clause-going c =
    done_going (map (λ f. f.now) c.args.frames.now.items) c.args.list.now c.args.command.now c.args.rest.now
    (map (λ f. f.now) c.leave-else-value-ne0-2.new.frames.items) c.args.memory.now c.requires.first (length c.args.memory.now) c.requires.going
    c.requires.frame c.in-While.guard c.in-While.body c.in-While.is c.leave-else-value-ne0-2.ensures

pub returns-in_ok-enter-in-Mitigate-clause-step : goal.returns-in_ok-enter-in-Mitigate-clause-step
returns-in_ok-enter-in-Mitigate-clause-step c =
    mitigate_step (map (λ f. f.now) c.args.frames.now.items) c.args.list.now c.args.command.now c.args.rest.now
    (map (λ f. f.now) c.enter-in-Mitigate.new.frames.items) c.args.memory.now c.requires.first c.in-Mitigate.mark c.in-Mitigate.estimate c.in-Mitigate.level
    c.in-Mitigate.body c.deref-in-Mitigate.result.now c.in-Mitigate.is c.deref-in-Mitigate.ensures.value c.in_ok-enter-in-Mitigate.ensures.ok

pub returns-in_ok-enter-in-Mitigate-clause-going : goal.returns-in_ok-enter-in-Mitigate-clause-going
returns-in_ok-enter-in-Mitigate-clause-going c =
    mitigate_going (map (λ f. f.now) c.args.frames.now.items) c.args.list.now c.args.command.now c.args.rest.now
    (map (λ f. f.now) c.enter-in-Mitigate.new.frames.items) c.args.memory.now c.requires.first (length c.args.memory.now) c.requires.going c.requires.frame
    c.in-Mitigate.mark c.in-Mitigate.estimate c.in-Mitigate.level c.in-Mitigate.body c.deref-in-Mitigate.result.now c.in-Mitigate.is
    c.deref-in-Mitigate.ensures.value c.in_ok-enter-in-Mitigate.ensures.ok

pub returns-in-Skip-clause-step : goal.returns-in-Skip-clause-step
returns-in-Skip-clause-step c =
    elim c.in-Skip.is [
      | inl f ↦ skip_step (map (λ f. f.now) c.args.frames.now.items) c.args.list.now c.args.command.now c.args.rest.now
          (map (λ f. f.now) c.leave-in-Skip.new.frames.items) c.args.memory.now c.requires.first f c.leave-in-Skip.ensures
      | inr f ↦ sleep_step (map (λ f. f.now) c.args.frames.now.items) c.args.list.now c.args.command.now c.args.rest.now
          (map (λ f. f.now) c.leave-in-Skip.new.frames.items) c.args.memory.now c.requires.first f.0 f.1 c.leave-in-Skip.ensures
    ]

pub returns-in-Skip-clause-going : goal.returns-in-Skip-clause-going
returns-in-Skip-clause-going c =
    elim c.in-Skip.is [
      | inl f ↦ skip_going (map (λ f. f.now) c.args.frames.now.items) c.args.list.now c.args.command.now c.args.rest.now
          (map (λ f. f.now) c.leave-in-Skip.new.frames.items) c.args.memory.now c.requires.first (length c.args.memory.now) c.requires.going
          c.requires.frame f c.leave-in-Skip.ensures
      | inr f ↦ sleep_going (map (λ f. f.now) c.args.frames.now.items) c.args.list.now c.args.command.now c.args.rest.now
          (map (λ f. f.now) c.leave-in-Skip.new.frames.items) c.args.memory.now c.requires.first (length c.args.memory.now) c.requires.going c.requires.frame
          f.0 f.1 c.leave-in-Skip.ensures
    ]

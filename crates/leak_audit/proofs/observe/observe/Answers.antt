use Rattle.std.proofs.Common.{◌≡◌, refl, sym, ap, ◌∙◌, subst, arith, Option, None, Some}
use Rattle.mit_syntax.specs.Declarations.{variables}
use Rattle.env_contract.specs.Env.{Env}
use Rattle.cycle_machine.specs.declared.end.RunEnd.{RunEnd}
use Rattle.cycle_machine.specs.Rest.{end_of_turn, IsTurnBelow}
use Rattle.cycle_machine.proofs.Goes.{next_turn, last_turn, turn_below, turn_shown}
use Rattle.leak_audit.specs.Observed.{SeesTurn}
use Rattle.leak_audit.proofs.Tallying.{sees_turn}
use Rattle.leak_audit.proofs.Running.{none_observed, more_observed, all_observed}
use Rattle.leak_audit.proofs.observe.observe.Goals as goal

none_left : (o : Option RunEnd) → ((e : RunEnd) → o ≡ Some e → ⊥) → o ≡ None
none_left None h = refl
none_left (Some e) h = absurd (h e refl)

pub run-init : goal.run-init
run-init g c =
    let v : Env g.row.E.Denot = g.E.MachineEnv.env in
    none_observed v c.args.limit c.args.p.now c.args.observer.now.label.number c.args.observer.now.relevant.now c.args.observer.now.room c.args.m.now
    c.new-tally.result c.requires.start c.new-tally.ensures.shown c.new-tally.ensures.begun c.new-tally.ensures.ended c.new-tally.ensures.events

pub returns-in-Some : goal.returns-in-Some
returns-in-Some g c =
    let v : Env g.row.E.Denot = g.E.MachineEnv.env in
    let below : IsTurnBelow (variables c.args.p.now.program.declarations) c.next_shown-turn.result =
    subst (λ n. IsTurnBelow n c.next_shown-turn.result) (ap (λ m. m.variables) c.run.invariant.code ∙ c.requires.variables)
    (turn_below v c.args.observer.now.shown.now c.args.limit c.run.m c.next_shown-turn.new.self c.next_shown-turn.result c.laws.ensures.shaped
    c.laws.ensures.stopped c.next_shown-turn.ensures) in
    let sees : SeesTurn c.args.p.now c.args.observer.now.label.number c.next_shown-turn.result =
    sees_turn c.args.p.now c.args.observer.now.label.number c.args.observer.now.shown.now c.requires.shown c.next_shown-turn.result below
    (turn_shown v c.args.observer.now.shown.now c.args.limit c.run.m c.next_shown-turn.new.self c.next_shown-turn.result c.laws.ensures.stopped
    c.next_shown-turn.ensures) in
    let told : end_of_turn c.next_shown-turn.result ≡ Some c.in-Some.end = sym c.in_ok-end.ensures.end ∙ c.in-Some.is in
    all_observed v c.args.limit c.args.p.now c.args.observer.now.label.number c.args.observer.now.relevant.now c.args.observer.now.room
    c.args.observer.now.shown.now c.requires.shown c.args.m.now c.run.m c.next_shown-turn.new.self c.next_shown-turn.result c.in-Some.end c.run.tally
    c.take.new.self c.run.invariant
    (last_turn v c.args.observer.now.shown.now c.args.limit c.run.m c.next_shown-turn.new.self c.next_shown-turn.result c.in-Some.end c.laws.ensures.stopped
    c.next_shown-turn.ensures told) told (λ events. c.in_ok-end.ensures.tallies c.args.p.now events sees)

pub run-preserved : goal.run-preserved
run-preserved g c =
    let v : Env g.row.E.Denot = g.E.MachineEnv.env in
    let below : IsTurnBelow (variables c.args.p.now.program.declarations) c.next_shown-turn.result =
    subst (λ n. IsTurnBelow n c.next_shown-turn.result) (ap (λ m. m.variables) c.run.invariant.code ∙ c.requires.variables)
    (turn_below v c.args.observer.now.shown.now c.args.limit c.run.m c.next_shown-turn.new.self c.next_shown-turn.result c.laws.ensures.shaped
    c.laws.ensures.stopped c.next_shown-turn.ensures) in
    let sees : SeesTurn c.args.p.now c.args.observer.now.label.number c.next_shown-turn.result =
    sees_turn c.args.p.now c.args.observer.now.label.number c.args.observer.now.shown.now c.requires.shown c.next_shown-turn.result below
    (turn_shown v c.args.observer.now.shown.now c.args.limit c.run.m c.next_shown-turn.new.self c.next_shown-turn.result c.laws.ensures.stopped
    c.next_shown-turn.ensures) in
    let none : end_of_turn c.next_shown-turn.result ≡ None = sym c.in_ok-end.ensures.end ∙ none_left c.in_ok-end.field-0 c.in_default.not-Some in
    more_observed v c.args.limit c.args.p.now c.args.observer.now.label.number c.args.observer.now.relevant.now c.args.observer.now.room
    c.args.observer.now.shown.now c.requires.shown c.args.m.now c.run.m c.next_shown-turn.new.self c.next_shown-turn.result c.run.tally
    c.take.new.self c.run.invariant
    (next_turn v c.args.observer.now.shown.now c.args.limit c.run.m c.next_shown-turn.new.self c.next_shown-turn.result c.laws.ensures.stopped
    c.next_shown-turn.ensures none) c.in_ok-end.ensures.counts (λ events. c.in_ok-end.ensures.tallies c.args.p.now events sees)

pub run-smaller : goal.run-smaller
run-smaller g c =
    let v : Env g.row.E.Denot = g.E.MachineEnv.env in
    let none : end_of_turn c.next_shown-turn.result ≡ None = sym c.in_ok-end.ensures.end ∙ none_left c.in_ok-end.field-0 c.in_default.not-Some in
    let next = next_turn v c.args.observer.now.shown.now c.args.limit c.run.m c.next_shown-turn.new.self c.next_shown-turn.result c.laws.ensures.stopped
    c.next_shown-turn.ensures none in
    let later = next.later in
    let within = next.within in
    omega (arith, later, within)

use Rattle.std.proofs.Common.{◌≡◌, ◌≤◌, refl, sym, ap, ◌∙◌, subst, arith, Option, None, Some}
use Rattle.std.specs.Prelude.{ℕ, Result, Ok, Err, OnErr}
use Rattle.cycle_machine.specs.declared.end.RunEnd.{RunEnd}
use Rattle.std.specs.Io.KnownBytes.{Appends}
use Rattle.tim_base.specs.Sinks.{AppendsPrefix}
use Rattle.mit_syntax.specs.Declarations.{variables}
use Rattle.env_contract.specs.Env.{Env}
use Rattle.cycle_machine.specs.Rest.{end_of_turn, IsTurnBelow}
use Rattle.event_print.specs.Text.{text_of_turn}
use Rattle.cycle_machine.proofs.Goes.{next_turn, last_turn, turn_below, turn_shown}
use Rattle.event_print.specs.Text.{TellsShown}
use Rattle.event_print.proofs.Listed.{IsShown, turn_is_shown, few_variables}
use Rattle.event_print.proofs.Printed.{none_printed, stands_first, more_printed, all_printed, end_is, prefix_printed, stands_turn}
use Rattle.event_print.specs.Pieces.{SendsLines, BreaksLines}
use Rattle.event_print.proofs.Pieced.{no_lines, lines_then, lines_break}
use Rattle.event_print.proofs.print.print_run.Goals as goal

on_err : {T E : Type 0} (r : Result T E) (P : Type 0) → P → OnErr r P
on_err (Ok x) P h = tt
on_err (Err e) P h = h

none_left : (o : Option RunEnd) → ((e : RunEnd) → o ≡ Some e → ⊥) → o ≡ None
none_left None h = refl
none_left (Some e) h = absurd (h e refl)

up_to : (a b c : ℕ) → a ≤ b → b ≤ c → a ≤ c
up_to a b c p q = omega arith

pub run-init : goal.run-init
run-init g c =
    let v : Env g.row.E.Denot = g.E.MachineEnv.env in
    record {
      printed = none_printed v c.args.limit c.args.p.now.labelled c.args.observer c.args.m.now (g.W.Sink.taken c.args.out.now);
      sent = no_lines c.args.p.now.labelled.program.declarations (g.W.Sink.log c.args.out.now);
      stands = stands_first v c.args.limit c.args.m.now;
      later = omega arith;
      labelled = c.labelled-labelled.ensures.labelled;
    }

pub shown_variables-shown-requires : goal.shown_variables-shown-requires
shown_variables-shown-requires g c =
    subst (λ n. n ≤ 3072) (c.requires.variables ∙ ap (λ p. variables p.program.declarations) (sym c.labelled-labelled.ensures.labelled))
    (few_variables c.args.m.now.code c.laws.ensures.shaped)

pub print_turn-requires : goal.print_turn-requires
print_turn-requires g c =
    let v : Env g.row.E.Denot = g.E.MachineEnv.env in
    let below : IsTurnBelow (variables c.args.p.now.labelled.program.declarations) c.next_shown-turn.result =
    subst (λ n. IsTurnBelow n c.next_shown-turn.result) (ap (λ m. m.variables) c.run.invariant.stands.code ∙ c.requires.variables)
    (turn_below v c.shown_variables-shown.result c.args.limit c.run.m c.next_shown-turn.new.self c.next_shown-turn.result c.laws-in-run.ensures.shaped
    c.laws-in-run.ensures.stopped c.next_shown-turn.ensures) in
    subst (λ p. IsTurnBelow (variables p.declarations) c.next_shown-turn.result)
    (sym (c.program.ensures.program ∙ ap (λ p. p.program) c.labelled-labelled.ensures.labelled)) below

pub returns-in_err-end-clause-prefix : goal.returns-in_err-end-clause-prefix
returns-in_err-end-clause-prefix g c =
    let v : Env g.row.E.Denot = g.E.MachineEnv.env in
    let tells : TellsShown c.args.p.now.labelled c.args.observer c.shown_variables-shown.result =
    subst (λ p. TellsShown p c.args.observer c.shown_variables-shown.result) c.labelled-labelled.ensures.labelled c.shown_variables-shown.ensures in
    let below : IsTurnBelow (variables c.args.p.now.labelled.program.declarations) c.next_shown-turn.result =
    subst (λ n. IsTurnBelow n c.next_shown-turn.result) (ap (λ m. m.variables) c.run.invariant.stands.code ∙ c.requires.variables)
    (turn_below v c.shown_variables-shown.result c.args.limit c.run.m c.next_shown-turn.new.self c.next_shown-turn.result c.laws-in-run.ensures.shaped
    c.laws-in-run.ensures.stopped c.next_shown-turn.ensures) in
    let is : IsShown c.args.p.now.labelled c.args.observer c.next_shown-turn.result =
    turn_is_shown c.args.p.now.labelled c.args.observer c.shown_variables-shown.result c.next_shown-turn.result tells below
    (turn_shown v c.shown_variables-shown.result c.args.limit c.run.m c.next_shown-turn.new.self c.next_shown-turn.result c.laws-in-run.ensures.stopped
    c.next_shown-turn.ensures) in
    let line : AppendsPrefix (g.W.Sink.taken c.run.out) (g.W.Sink.taken c.print_turn.new.out)
    (text_of_turn c.args.p.now.labelled.program.declarations c.next_shown-turn.result) =
    subst (λ p. AppendsPrefix (g.W.Sink.taken c.run.out) (g.W.Sink.taken c.print_turn.new.out) (text_of_turn p.declarations c.next_shown-turn.result))
    (c.program.ensures.program ∙ ap (λ p. p.program) c.labelled-labelled.ensures.labelled) c.in_err-end.ensures.prefix in
    on_err _ _ (prefix_printed v c.args.limit c.args.p.now.labelled c.args.observer c.shown_variables-shown.result c.args.m.now c.run.m
    c.next_shown-turn.new.self c.next_shown-turn.result _ _ _ tells c.run.invariant.printed c.laws-in-run.ensures.stopped c.next_shown-turn.ensures is line)

pub returns-in_err-end-clause-stands : goal.returns-in_err-end-clause-stands
returns-in_err-end-clause-stands g c =
    let v : Env g.row.E.Denot = g.E.MachineEnv.env in
    stands_turn v c.args.limit c.args.p.now.labelled c.args.observer c.shown_variables-shown.result c.args.m.now c.run.m c.next_shown-turn.new.self
    c.next_shown-turn.result _ _ c.run.invariant.printed c.run.invariant.stands c.laws-in-run.ensures.stopped c.next_shown-turn.ensures

pub returns-in-Some-clause-end : goal.returns-in-Some-clause-end
returns-in-Some-clause-end g c =
    let v : Env g.row.E.Denot = g.E.MachineEnv.env in
    let told : end_of_turn c.next_shown-turn.result ≡ Some c.in-Some.end = sym c.in_ok-end.ensures.end ∙ c.in-Some.is in
    end_is v c.args.limit c.args.p.now.labelled c.args.observer c.shown_variables-shown.result c.args.m.now c.run.m c.next_shown-turn.new.self
    c.next_shown-turn.result c.in-Some.end _ _ c.run.invariant.printed
    (last_turn v c.shown_variables-shown.result c.args.limit c.run.m c.next_shown-turn.new.self c.next_shown-turn.result c.in-Some.end
    c.laws-in-run.ensures.stopped c.next_shown-turn.ensures told)

pub returns-in-Some-clause-text : goal.returns-in-Some-clause-text
returns-in-Some-clause-text g c =
    let v : Env g.row.E.Denot = g.E.MachineEnv.env in
    let told : end_of_turn c.next_shown-turn.result ≡ Some c.in-Some.end = sym c.in_ok-end.ensures.end ∙ c.in-Some.is in
    let tells : TellsShown c.args.p.now.labelled c.args.observer c.shown_variables-shown.result =
    subst (λ p. TellsShown p c.args.observer c.shown_variables-shown.result) c.labelled-labelled.ensures.labelled c.shown_variables-shown.ensures in
    let line : Appends (g.W.Sink.taken c.run.out) (g.W.Sink.taken c.print_turn.new.out)
    (text_of_turn c.args.p.now.labelled.program.declarations c.next_shown-turn.result) =
    subst (λ p. Appends (g.W.Sink.taken c.run.out) (g.W.Sink.taken c.print_turn.new.out) (text_of_turn p.declarations c.next_shown-turn.result))
    (c.program.ensures.program ∙ ap (λ p. p.program) c.labelled-labelled.ensures.labelled) c.in_ok-end.ensures.text in
    all_printed v c.args.limit c.args.p.now.labelled c.args.observer c.shown_variables-shown.result c.args.m.now c.run.m c.next_shown-turn.new.self
    c.next_shown-turn.result c.in-Some.end _ _ _ tells c.run.invariant.printed
    (last_turn v c.shown_variables-shown.result c.args.limit c.run.m c.next_shown-turn.new.self c.next_shown-turn.result c.in-Some.end
    c.laws-in-run.ensures.stopped c.next_shown-turn.ensures told) told line

pub returns-in-Some-clause-stands : goal.returns-in-Some-clause-stands
returns-in-Some-clause-stands g c =
    let v : Env g.row.E.Denot = g.E.MachineEnv.env in
    stands_turn v c.args.limit c.args.p.now.labelled c.args.observer c.shown_variables-shown.result c.args.m.now c.run.m c.next_shown-turn.new.self
    c.next_shown-turn.result _ _ c.run.invariant.printed c.run.invariant.stands c.laws-in-run.ensures.stopped c.next_shown-turn.ensures

pub run-preserved : goal.run-preserved
run-preserved g c =
    let v : Env g.row.E.Denot = g.E.MachineEnv.env in
    let none : end_of_turn c.next_shown-turn.result ≡ None = sym c.in_ok-end.ensures.end ∙ none_left c.in_ok-end.field-0 c.in_default.not-Some in
    let tells : TellsShown c.args.p.now.labelled c.args.observer c.shown_variables-shown.result =
    subst (λ p. TellsShown p c.args.observer c.shown_variables-shown.result) c.labelled-labelled.ensures.labelled c.shown_variables-shown.ensures in
    let below : IsTurnBelow (variables c.args.p.now.labelled.program.declarations) c.next_shown-turn.result =
    subst (λ n. IsTurnBelow n c.next_shown-turn.result) (ap (λ m. m.variables) c.run.invariant.stands.code ∙ c.requires.variables)
    (turn_below v c.shown_variables-shown.result c.args.limit c.run.m c.next_shown-turn.new.self c.next_shown-turn.result c.laws-in-run.ensures.shaped
    c.laws-in-run.ensures.stopped c.next_shown-turn.ensures) in
    let is : IsShown c.args.p.now.labelled c.args.observer c.next_shown-turn.result =
    turn_is_shown c.args.p.now.labelled c.args.observer c.shown_variables-shown.result c.next_shown-turn.result tells below
    (turn_shown v c.shown_variables-shown.result c.args.limit c.run.m c.next_shown-turn.new.self c.next_shown-turn.result c.laws-in-run.ensures.stopped
    c.next_shown-turn.ensures) in
    let line : Appends (g.W.Sink.taken c.run.out) (g.W.Sink.taken c.print_turn.new.out)
    (text_of_turn c.args.p.now.labelled.program.declarations c.next_shown-turn.result) =
    subst (λ p. Appends (g.W.Sink.taken c.run.out) (g.W.Sink.taken c.print_turn.new.out) (text_of_turn p.declarations c.next_shown-turn.result))
    (c.program.ensures.program ∙ ap (λ p. p.program) c.labelled-labelled.ensures.labelled) c.in_ok-end.ensures.text in
    let next = next_turn v c.shown_variables-shown.result c.args.limit c.run.m c.next_shown-turn.new.self c.next_shown-turn.result c.laws-in-run.ensures.stopped
    c.next_shown-turn.ensures none in
    record {
      printed = more_printed v c.args.limit c.args.p.now.labelled c.args.observer c.shown_variables-shown.result c.args.m.now c.run.m c.next_shown-turn.new.self
          c.next_shown-turn.result _ _ _ tells c.run.invariant.printed next is none line;
      sent = lines_then c.args.p.now.labelled.program.declarations (g.W.Sink.log c.args.out.now) (g.W.Sink.log c.run.out) (g.W.Sink.log c.print_turn.new.out)
          c.run.invariant.sent (subst (λ p. SendsLines p.declarations (g.W.Sink.log c.run.out) (g.W.Sink.log c.print_turn.new.out)) (c.program.ensures.program
          ∙ ap (λ p. p.program) c.labelled-labelled.ensures.labelled) c.in_ok-end.ensures.sent);
      stands = stands_turn v c.args.limit c.args.p.now.labelled c.args.observer c.shown_variables-shown.result c.args.m.now c.run.m c.next_shown-turn.new.self
          c.next_shown-turn.result _ _ c.run.invariant.printed c.run.invariant.stands c.laws-in-run.ensures.stopped c.next_shown-turn.ensures;
      later = up_to _ _ _ c.run.invariant.later c.print_turn.ensures.later;
      labelled = c.labelled-labelled.ensures.labelled;
    }

pub run-smaller : goal.run-smaller
run-smaller g c =
    let v : Env g.row.E.Denot = g.E.MachineEnv.env in
    let none : end_of_turn c.next_shown-turn.result ≡ None = sym c.in_ok-end.ensures.end ∙ none_left c.in_ok-end.field-0 c.in_default.not-Some in
    let next = next_turn v c.shown_variables-shown.result c.args.limit c.run.m c.next_shown-turn.new.self c.next_shown-turn.result c.laws-in-run.ensures.stopped
    c.next_shown-turn.ensures none in
    let later = next.later in
    let within = next.within in
    omega (arith, later, within)

pub returns-in-Some-clause-sent : goal.returns-in-Some-clause-sent
returns-in-Some-clause-sent g c =
    lines_then c.args.p.now.labelled.program.declarations (g.W.Sink.log c.args.out.now) (g.W.Sink.log c.run.out) (g.W.Sink.log c.print_turn.new.out)
    c.run.invariant.sent (subst (λ p. SendsLines p.declarations (g.W.Sink.log c.run.out) (g.W.Sink.log c.print_turn.new.out)) (c.program.ensures.program
    ∙ ap (λ p. p.program) c.labelled-labelled.ensures.labelled) c.in_ok-end.ensures.sent)

pub returns-in_err-end-clause-broken : goal.returns-in_err-end-clause-broken
returns-in_err-end-clause-broken g c =
    on_err _ _ (lines_break c.args.p.now.labelled.program.declarations (g.W.Sink.log c.args.out.now) (g.W.Sink.log c.run.out)
    (g.W.Sink.log c.print_turn.new.out) c.run.invariant.sent
    (subst (λ p. BreaksLines p.declarations (g.W.Sink.log c.run.out) (g.W.Sink.log c.print_turn.new.out)) (c.program.ensures.program
    ∙ ap (λ p. p.program) c.labelled-labelled.ensures.labelled) c.in_err-end.ensures.broken))

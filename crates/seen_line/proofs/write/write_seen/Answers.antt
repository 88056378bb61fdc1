use Rattle.std.proofs.Common.{◌≡◌, ◌≤◌, sym, ap, ◌∙◌, subst, arith, true, false, Some}
use Rattle.std.specs.Prelude.{ℕ, Result, Ok, Err, OnErr}
use Rattle.std.specs.Io.KnownBytes.{Appends}
use Rattle.tim_base.specs.Sinks.{AppendsPrefix}
use Rattle.mit_syntax.specs.Declarations.{variables}
use Rattle.env_contract.specs.Env.{Env}
use Rattle.cycle_machine.specs.Rest.{IsTurnBelow}
use Rattle.cycle_machine.proofs.Goes.{turn_below, turn_shown, next_turn}
use Rattle.event_print.specs.Text.{TellsShown}
use Rattle.event_print.proofs.Listed.{IsShown, turn_is_shown, few_variables}
use Rattle.seen_line.specs.Field.{piece, is_last}
use Rattle.seen_line.proofs.Fields.{more_field, whole_field, whole_printable, prefix_field, none_more}
use Rattle.seen_line.proofs.write.write_seen.Goals as goal

on_err : {T E : Type 0} (r : Result T E) (P : Type 0) → P → OnErr r P
on_err (Ok x) P h = tt
on_err (Err e) P h = h

up_to : (a b c : ℕ) → a ≤ b → b ≤ c → a ≤ c
up_to a b c p q = omega arith

pub shown_variables-shown-requires : goal.shown_variables-shown-requires
shown_variables-shown-requires g c =
    subst (λ n. n ≤ 3072) c.requires.variables
    (few_variables c.args.m.now.code c.laws.ensures.shaped)

pub write_turn-requires : goal.write_turn-requires
write_turn-requires g c =
    let v : Env g.row.E.Denot = g.E.MachineEnv.env in
    let below : IsTurnBelow (variables c.args.p.now.program.declarations) c.next_shown-turn.result =
    subst (λ n. IsTurnBelow n c.next_shown-turn.result) (ap (λ m. m.variables) c.run.invariant.fields.code ∙ c.requires.variables)
    (turn_below v c.shown_variables-shown.result c.args.limit c.run.m c.next_shown-turn.new.self c.next_shown-turn.result c.laws-in-run.ensures.shaped
    c.laws-in-run.ensures.stopped c.next_shown-turn.ensures) in
    subst (λ p. IsTurnBelow (variables p.declarations) c.next_shown-turn.result)
    (sym c.program.ensures.program) below

pub returns-in_err-written-clause-prefix : goal.returns-in_err-written-clause-prefix
returns-in_err-written-clause-prefix g c =
    let v : Env g.row.E.Denot = g.E.MachineEnv.env in
    let tells : TellsShown c.args.p.now (Some c.args.observer) c.shown_variables-shown.result =
    c.shown_variables-shown.ensures in
    let below : IsTurnBelow (variables c.args.p.now.program.declarations) c.next_shown-turn.result =
    subst (λ n. IsTurnBelow n c.next_shown-turn.result) (ap (λ m. m.variables) c.run.invariant.fields.code ∙ c.requires.variables)
    (turn_below v c.shown_variables-shown.result c.args.limit c.run.m c.next_shown-turn.new.self c.next_shown-turn.result c.laws-in-run.ensures.shaped
    c.laws-in-run.ensures.stopped c.next_shown-turn.ensures) in
    let is : IsShown c.args.p.now (Some c.args.observer) c.next_shown-turn.result =
    turn_is_shown c.args.p.now (Some c.args.observer) c.shown_variables-shown.result c.next_shown-turn.result tells below
    (turn_shown v c.shown_variables-shown.result c.args.limit c.run.m c.next_shown-turn.new.self c.next_shown-turn.result c.laws-in-run.ensures.stopped
    c.next_shown-turn.ensures) in
    let text : AppendsPrefix (g.W.Sink.taken c.run.out) (g.W.Sink.taken c.write_turn.new.out)
    (piece c.args.p.now.program.declarations c.run.none c.next_shown-turn.result) =
    subst (λ p. AppendsPrefix (g.W.Sink.taken c.run.out) (g.W.Sink.taken c.write_turn.new.out) (piece p.declarations c.run.none c.next_shown-turn.result))
    c.program.ensures.program c.in_err-written.ensures.prefix in
    on_err _ _ (prefix_field v c.args.limit c.args.p.now c.args.observer c.shown_variables-shown.result tells c.args.m.now c.run.m
    c.next_shown-turn.new.self c.next_shown-turn.result c.run.none _ _ _ c.run.invariant.fields c.laws-in-run.ensures.stopped
    c.next_shown-turn.ensures is text)

pub returns-then-written-clause-text : goal.returns-then-written-clause-text
returns-then-written-clause-text g c =
    let v : Env g.row.E.Denot = g.E.MachineEnv.env in
    let last : is_last c.next_shown-turn.result ≡ true = sym c.in_ok-written.ensures.last ∙ c.if-written.true in
    let tells : TellsShown c.args.p.now (Some c.args.observer) c.shown_variables-shown.result =
    c.shown_variables-shown.ensures in
    let text : Appends (g.W.Sink.taken c.run.out) (g.W.Sink.taken c.write_turn.new.out)
    (piece c.args.p.now.program.declarations c.run.none c.next_shown-turn.result) =
    subst (λ p. Appends (g.W.Sink.taken c.run.out) (g.W.Sink.taken c.write_turn.new.out) (piece p.declarations c.run.none c.next_shown-turn.result))
    c.program.ensures.program c.in_ok-written.ensures.text in
    whole_field v c.args.limit c.args.p.now c.args.observer c.shown_variables-shown.result tells c.args.m.now c.run.m c.next_shown-turn.new.self
    c.next_shown-turn.result c.run.none _ _ _ c.run.invariant.fields last c.laws-in-run.ensures.stopped c.next_shown-turn.ensures text

pub returns-then-written-clause-printable : goal.returns-then-written-clause-printable
returns-then-written-clause-printable g c =
    let v : Env g.row.E.Denot = g.E.MachineEnv.env in
    let last : is_last c.next_shown-turn.result ≡ true = sym c.in_ok-written.ensures.last ∙ c.if-written.true in
    let tells : TellsShown c.args.p.now (Some c.args.observer) c.shown_variables-shown.result =
    c.shown_variables-shown.ensures in
    whole_printable v c.args.limit c.args.p.now c.args.observer c.shown_variables-shown.result tells c.args.m.now c.run.m c.next_shown-turn.new.self
    c.next_shown-turn.result c.run.none _ _ c.run.invariant.fields last c.laws-in-run.ensures.stopped c.next_shown-turn.ensures

pub run-preserved : goal.run-preserved
run-preserved g c =
    let v : Env g.row.E.Denot = g.E.MachineEnv.env in
    let last : is_last c.next_shown-turn.result ≡ false = sym c.in_ok-written.ensures.last ∙ c.if-written.false in
    let tells : TellsShown c.args.p.now (Some c.args.observer) c.shown_variables-shown.result =
    c.shown_variables-shown.ensures in
    let below : IsTurnBelow (variables c.args.p.now.program.declarations) c.next_shown-turn.result =
    subst (λ n. IsTurnBelow n c.next_shown-turn.result) (ap (λ m. m.variables) c.run.invariant.fields.code ∙ c.requires.variables)
    (turn_below v c.shown_variables-shown.result c.args.limit c.run.m c.next_shown-turn.new.self c.next_shown-turn.result c.laws-in-run.ensures.shaped
    c.laws-in-run.ensures.stopped c.next_shown-turn.ensures) in
    let is : IsShown c.args.p.now (Some c.args.observer) c.next_shown-turn.result =
    turn_is_shown c.args.p.now (Some c.args.observer) c.shown_variables-shown.result c.next_shown-turn.result tells below
    (turn_shown v c.shown_variables-shown.result c.args.limit c.run.m c.next_shown-turn.new.self c.next_shown-turn.result c.laws-in-run.ensures.stopped
    c.next_shown-turn.ensures) in
    let text : Appends (g.W.Sink.taken c.run.out) (g.W.Sink.taken c.write_turn.new.out)
    (piece c.args.p.now.program.declarations c.run.none c.next_shown-turn.result) =
    subst (λ p. Appends (g.W.Sink.taken c.run.out) (g.W.Sink.taken c.write_turn.new.out) (piece p.declarations c.run.none c.next_shown-turn.result))
    c.program.ensures.program c.in_ok-written.ensures.text in
    record {
      fields =
          more_field v c.args.limit c.args.p.now c.args.observer c.shown_variables-shown.result tells c.args.m.now c.run.m c.next_shown-turn.new.self
          c.next_shown-turn.result c.run.none c.in_ok-written.written.none _ _ _
          c.run.invariant.fields last c.laws-in-run.ensures.stopped c.next_shown-turn.ensures is c.in_ok-written.ensures.none text below
          c.in_ok-written.ensures.printable;
      later = up_to _ _ _ c.run.invariant.later c.write_turn.ensures.later;
    }

pub run-smaller : goal.run-smaller
run-smaller g c =
    let v : Env g.row.E.Denot = g.E.MachineEnv.env in
    let last : is_last c.next_shown-turn.result ≡ false = sym c.in_ok-written.ensures.last ∙ c.if-written.false in
    let next = next_turn v c.shown_variables-shown.result c.args.limit c.run.m c.next_shown-turn.new.self c.next_shown-turn.result c.laws-in-run.ensures.stopped
    c.next_shown-turn.ensures (none_more c.next_shown-turn.result last) in
    let later = next.later in
    let within = next.within in
    omega (arith, later, within)

use Rattle.std.proofs.Common.{arith, ◌<◌, ◌≤◌, inl, inr}
use Rattle.mit_tool.proofs.WalkLemmas.{walking_first, walking_next, ends_lines, breaks_off, stops_last, stops_lines}
use Rattle.mit_tool.proofs.LoggedLemmas.{no_lines, lines_more, lines_break}
use Rattle.mit_tool.proofs.commands.meaning.walk.walk.Goals as goal

pub steps-init : goal.steps-init
steps-init g c = record {
  walking = walking_first c.args.p.now c.args.memory.now c.args.steps c.in-Ok.walker (g.W.Sink.taken c.args.out.now) c.laws.ensures.valid c.in-Ok.ensures;
  sent = no_lines (g.W.Sink.log c.args.out.now);
  later = omega arith;
}

pub returns-in-Ended-clause-text : goal.returns-in-Ended-clause-text
returns-in-Ended-clause-text g c =
    ends_lines c.args.p.now c.args.memory.now c.args.steps c.steps.taken c.steps.walker c.step.new.self c.in-Ok-step.walk (g.W.Sink.taken c.args.out.now)
    (g.W.Sink.taken c.steps.out) c.steps.invariant.walking c.in-Ok-step.ensures.step c.in-Ended.is

pub steps-preserved : goal.steps-preserved
steps-preserved g c =
    let less : c.steps.taken < c.args.steps = omega (arith, c.if-taken-steps.false) in
    record {
      walking = walking_next c.args.p.now c.args.memory.now c.args.steps c.steps.taken c.steps.walker c.step.new.self c.in-Ok-step.walk
          (g.W.Sink.taken c.args.out.now) (g.W.Sink.taken c.steps.out) (g.W.Sink.taken c.print_step.new.out) c.steps.invariant.walking c.in-Ok-step.ensures.step
          c.in_default-walk.not-Ended less c.in-Ok-print_step.ensures.text;
      sent = lines_more c.args.p.now.declarations c.in-Ok-step.walk (g.W.Sink.log c.args.out.now) (g.W.Sink.log c.steps.out) (g.W.Sink.log c.print_step.new.out)
          c.laws.ensures.valid.names c.steps.invariant.sent c.in-Ok-print_step.ensures.sent;
      later = omega (arith, c.steps.invariant.later, c.print_step.ensures.later);
    }

pub returns-in-Err-clause-prefix : goal.returns-in-Err-clause-prefix
returns-in-Err-clause-prefix g c =
    let less : c.steps.taken < c.args.steps = omega (arith, c.if-taken-steps.false) in
    λ e. breaks_off c.args.p.now c.args.memory.now c.args.steps c.steps.taken c.steps.walker c.step.new.self c.in-Ok-step.walk
    (g.W.Sink.taken c.args.out.now) (g.W.Sink.taken c.steps.out) (g.W.Sink.taken c.print_step.new.out) c.steps.invariant.walking
    c.in-Ok-step.ensures.step less c.in-Err.ensures.prefix

pub returns-in_default-step-clause-sent_some : goal.returns-in_default-step-clause-sent_some
returns-in_default-step-clause-sent_some g c = λ e. c.steps.invariant.sent

pub returns-in-Ended-clause-sent : goal.returns-in-Ended-clause-sent
returns-in-Ended-clause-sent g c = c.steps.invariant.sent

pub returns-in-Ended-clause-last_line : goal.returns-in-Ended-clause-last_line
returns-in-Ended-clause-last_line g c = inr (c.steps.taken, inl c.ended.ensures)

pub returns-in-Err-clause-broken : goal.returns-in-Err-clause-broken
returns-in-Err-clause-broken g c =
    λ e. lines_break c.args.p.now.declarations c.in-Ok-step.walk (g.W.Sink.log c.args.out.now) (g.W.Sink.log c.steps.out) (g.W.Sink.log c.print_step.new.out)
    c.laws.ensures.valid.names c.steps.invariant.sent c.in-Err.ensures.broken

pub returns-then-taken-steps : goal.returns-then-taken-steps
returns-then-taken-steps g c =
    let old = g.W.Sink.taken c.args.out.now in
    let now = g.W.Sink.taken c.steps.out in
    let past : c.args.steps ≤ c.steps.taken = omega (arith, c.if-taken-steps.true) in
    record {
      last = stops_last c.args.p.now c.args.memory.now c.args.steps c.steps.taken c.steps.walker c.step.new.self c.in-Ok-step.walk old now
          c.steps.invariant.walking c.in-Ok-step.ensures.step
          c.in_default-walk.not-Ended past c.not_ended.result c.not_ended.ensures;
      text = stops_lines c.args.p.now c.args.memory.now c.args.steps c.steps.taken c.steps.walker c.step.new.self c.in-Ok-step.walk old now
          c.steps.invariant.walking c.in-Ok-step.ensures.step past;
      some = λ e. absurd cc;
      prefix = λ e. absurd cc;
      fault = λ e. absurd cc;
      sent = c.steps.invariant.sent;
      sent_some = λ e. absurd cc;
      broken = λ e. absurd cc;
      last_line = inr (c.args.steps, inr c.not_ended.ensures);
      later = c.steps.invariant.later;
    }

use Rattle.std.proofs.Common.{◌+◌, ℕ, List, map, ap, ◌∙◌, refl, arith}
use Rattle.label_code.specs.Machine.{Event}
use Rattle.class_counts.specs.Tally.{add}
use Rattle.leak_audit.specs.Sequences.{same_sequence}
use Rattle.leak_classes.specs.declared.known.Known.{Known}
use Rattle.leak_classes.specs.Classes.{events_in, with_start}
use Rattle.leak_classes.specs.Views.{class_of, classes_of}
use Rattle.leak_classes.proofs.Putting.{cut_refused, much_refused, not_refused, all_kept, too_long}
use Rattle.leak_classes.proofs.known.Known.take.Goals as goal

-- how many events are kept with one sequence more
abbrev kept : Known → List Event → ℕ → ℕ
kept k s w = events_in (add same_sequence (map class_of k.classes.entries) s w)

pub returns-in-Limit-clause-refused : goal.returns-in-Limit-clause-refused
returns-in-Limit-clause-refused c = λ n sequence e h.
    cut_refused c.args.seen.end c.args.number (kept c.args.self.now sequence c.args.weight) c.in-Limit.cycle c.in-Limit.is

pub returns-then-shown-gt-MAX_EVENTS-clause-refused : goal.returns-then-shown-gt-MAX_EVENTS-clause-refused
returns-then-shown-gt-MAX_EVENTS-clause-refused c = λ n sequence e h.
    let more = c.if-shown-gt-MAX_EVENTS.true in
    much_refused c.args.seen.end c.args.number (c.args.self.now.events + c.args.seen.tally.shown) (kept c.args.self.now sequence c.args.weight)
    c.in_default.not-Limit
    (too_long c.args.self.now.classes.entries sequence c.args.weight c.args.seen.tally.shown c.args.self.now.events e c.requires.counted.events
    c.requires.counted.few more)
    (omega (arith, more))

pub returns-in-Err-clause-refused : goal.returns-in-Err-clause-refused
returns-in-Err-clause-refused c = λ n. absurd (n refl)

pub returns-then-self-gt-MAX_EVENTS-clause-refused : goal.returns-then-self-gt-MAX_EVENTS-clause-refused
returns-then-self-gt-MAX_EVENTS-clause-refused c = λ n sequence e h.
    let s = all_kept c.args.seen.tally.events sequence c.args.seen.tally.shown e c.if-shown-gt-MAX_EVENTS.false h in
    much_refused c.args.seen.end c.args.number c.put.new.self.events (kept c.args.self.now sequence c.args.weight) c.in_default.not-Limit
    (c.in-Ok.ensures.events ∙ ap (λ z. events_in z.seen) c.in-Ok.ensures.classes ∙ ap (λ z. kept c.args.self.now z c.args.weight) s)
    c.if-self-gt-MAX_EVENTS.true

pub returns-clause-taken : goal.returns-clause-taken
returns-clause-taken c = λ sequence e h.
    let s = all_kept c.args.seen.tally.events sequence c.args.seen.tally.shown e c.if-shown-gt-MAX_EVENTS.false h in (
      c.in-Ok.ensures.classes ∙ ap (λ z. with_start (classes_of c.args.self.now) c.args.number z c.args.weight) s,
      not_refused c.args.seen.end c.args.number c.put.new.self.events (kept c.args.self.now sequence c.args.weight) c.in_default.not-Limit
          (c.in-Ok.ensures.events ∙ ap (λ z. events_in z.seen) c.in-Ok.ensures.classes ∙ ap (λ z. kept c.args.self.now z c.args.weight) s)
          c.if-self-gt-MAX_EVENTS.false,
    )

pub returns-clause-counted : goal.returns-clause-counted
returns-clause-counted c = record { events = c.in-Ok.ensures.events; few = c.if-self-gt-MAX_EVENTS.false }

pub returns-clause-total : goal.returns-clause-total
returns-clause-total c = c.in-Ok.ensures.total

use Rattle.std.proofs.Common.{rules, ◌≡◌, ◌+◌, cond, sym, subst, ap, ◌∙◌, arith, to_z, of_z, w64}
use Rattle.std.specs.Prelude.{ℕ, ℤ, Bool, true, false}
use Rattle.std.proofs.lemmas.Int.{to_z-of_z}
use Rattle.label_code.specs.Machine.{Wrote}
use Rattle.timing_types.specs.Labelled.{LabelledProgram, order_of, labels_of}
use Rattle.cycle_machine.specs.declared.turn.Turn.{Turn}
use Rattle.cycle_machine.specs.declared.turn.Turn.TheVariants.{Event as AnEvent}
use Rattle.leak_audit.specs.Observed.{SeesTurn}
use Rattle.leak_audit.proofs.Tallying.{seen_more, begun_more, ended_more}
use Rattle.leak_audit.proofs.observe.Tally.take.Goals as goal

sees_event : (p : LabelledProgram) (o : ℕ) (turn : Turn) (x : ℕ) (n : ℤ) (c : ℕ) → turn ≡ AnEvent x n c → SeesTurn p o turn
    → (order_of p).flows (labels_of p x) o ≡ true
sees_event p o turn x n c e s = subst (SeesTurn p o) e s

count_one : (n : ℕ) (b : Bool) → b ≡ true → n + 1 ≡ n + cond b 1 0
count_one n b e = ap (λ z. n + cond z 1 0) (sym e)

count_none : (n : ℕ) (b : Bool) → b ≡ false → n ≡ n + cond b 1 0
count_none n true e = absurd cc
count_none n false e = omega arith

pub returns-in_ok-see-in-Event-clause-tallies : goal.returns-in_ok-see-in-Event-clause-tallies
returns-in_ok-see-in-Event-clause-tallies c = λ p events sees t.
    let n : to_z w64 (of_z w64 c.in-Event.value) ≡ c.in-Event.value = search (rules, to_z-of_z) in
    seen_more p c.args.observer.now.label.number c.args.observer.now.relevant.now c.args.observer.now.room events c.args.self.now t c.args.turn
    c.in-Event.variable _ c.in-Event.cycle c.in-Event.is
    (sees_event p c.args.observer.now.label.number c.args.turn c.in-Event.variable _ c.in-Event.cycle c.in-Event.is sees)
    _ c.see.new.self (ap (λ z. Wrote c.in-Event.variable z c.in-Event.cycle) n) c.in_ok-see-in-Event.ensures.shown c.in_ok-see-in-Event.ensures.kept
    c.in_ok-see-in-Event.ensures.dropped c.in_ok-see-in-Event.ensures.begun c.in_ok-see-in-Event.ensures.ended

pub returns-then-is_relevant-clause-tallies : goal.returns-then-is_relevant-clause-tallies
returns-then-is_relevant-clause-tallies c = λ p events sees t.
    begun_more p c.args.observer.now.label.number c.args.observer.now.relevant.now c.args.observer.now.room events c.args.self.now t c.args.turn c.in-Began.mark
    c.in-Began.cycle c.in-Began.is _ (count_one _ _ (sym c.is_relevant.ensures ∙ c.if-is_relevant.true))

pub returns-else-is_relevant-clause-tallies : goal.returns-else-is_relevant-clause-tallies
returns-else-is_relevant-clause-tallies c = λ p events sees t.
    begun_more p c.args.observer.now.label.number c.args.observer.now.relevant.now c.args.observer.now.room events c.args.self.now t c.args.turn c.in-Began.mark
    c.in-Began.cycle c.in-Began.is _ (count_none _ _ (sym c.is_relevant.ensures ∙ c.if-is_relevant.false))

pub returns-then-is_relevant-2-clause-tallies : goal.returns-then-is_relevant-2-clause-tallies
returns-then-is_relevant-2-clause-tallies c = λ p events sees t.
    ended_more p c.args.observer.now.label.number c.args.observer.now.relevant.now c.args.observer.now.room events c.args.self.now t c.args.turn c.in-Ended.mark
    c.in-Ended.cycle c.in-Ended.is _ (count_one _ _ (sym c.is_relevant-in-Ended.ensures ∙ c.if-is_relevant-2.true))

pub returns-else-is_relevant-2-clause-tallies : goal.returns-else-is_relevant-2-clause-tallies
returns-else-is_relevant-2-clause-tallies c = λ p events sees t.
    ended_more p c.args.observer.now.label.number c.args.observer.now.relevant.now c.args.observer.now.room events c.args.self.now t c.args.turn c.in-Ended.mark
    c.in-Ended.cycle c.in-Ended.is _ (count_none _ _ (sym c.is_relevant-in-Ended.ensures ∙ c.if-is_relevant-2.false))

-- What is known of a run that is observed, turn by turn.
use Rattle.std.proofs.Common.{◌≡◌, ◌≤◌, ℕ, List, [], ◌++◌, map, refl, sym, ap, ◌∙◌, append_assoc, append-nil, arith, Bool, Some, None, ℤ}
use Rattle.std.proofs.lemmas.List.{take_all}
use Rattle.timing_types.specs.Labelled.{LabelledProgram}
use Rattle.env_contract.specs.Env.{Env}
use Rattle.label_code.specs.Machine.{Event}
use Rattle.cycle_machine.specs.declared.turn.Turn.{Turn}
use Rattle.cycle_machine.specs.declared.turn.Turn.TheVariants.{Event as AnEvent, Began as HasBegun, Ended as HasEnded, Halted as DidHalt, Limit as DidLimit}
use Rattle.cycle_machine.specs.Turned.{Loaded}
use Rattle.cycle_machine.specs.declared.end.RunEnd.{RunEnd}
use Rattle.cycle_machine.specs.Rest.{Told}
use Rattle.label_code.specs.Machine.{start, run_to}
use Rattle.label_code.specs.Run.{Start, run_from}
use Rattle.cycle_machine.specs.Seen.{seen}
use Rattle.code_lower.specs.Lowered.{lowered}
use Rattle.cycle_machine.specs.Rest.{told_by, rest_of, rest_from, end_of_turn, events_of}
use Rattle.cycle_machine.proofs.Goes.{after_events, Next, Last}
use Rattle.leak_audit.specs.declared.observe.Tally.{Tally}
use Rattle.leak_audit.specs.Observed.{event_of, TellsSeen, Tallies, CountsUp, IsObserved}
use Rattle.leak_audit.proofs.Tallying.{same_more, hidden_more}

-- these events of the run are in the tally, and the rest is what the machine still does; no count is above the clock
pub record Observing {E : Type 0} (v : Env E) (limit : ℕ) (p : LabelledProgram) (o : ℕ) (marked : List Bool) (room : ℕ)
    (old new : Loaded E) (t : Tally) : Type 0 where
  pub events : List Event
  pub rest : rest_of v limit old ≡ after_events events (rest_of v limit new)
  pub tallies : Tallies p o marked room events t
  pub code : new.code ≡ old.code
  pub shown : t.shown ≤ new.state.clock
  pub begun : t.begun ≤ new.state.clock
  pub ended : t.ended ≤ new.state.clock
  pub by : new.state.clock ≤ limit

stop_tells : (t : Turn) (end : RunEnd) → end_of_turn t ≡ Some end → events_of t ≡ []
stop_tells (AnEvent x k c) end e = absurd cc
stop_tells (HasBegun k c) end e = absurd cc
stop_tells (HasEnded k c) end e = absurd cc
stop_tells (DidHalt c) end e = refl
stop_tells (DidLimit c) end e = refl

module _ {E : Type 0} (v : Env E) (limit : ℕ) (p : LabelledProgram) (o : ℕ) (marked : List Bool) (room : ℕ) where
  -- nothing is observed at first
  pub none_observed : (m : Loaded E) (t : Tally) → m.state.clock ≡ 0 → t.shown ≡ 0 → t.begun ≡ 0 → t.ended ≡ 0 → t.events.items ≡ []
      → Observing v limit p o marked room m m t
  none_observed m t clock shown begun ended items = record {
    events = [];
    rest = refl;
    tallies = record { shown = shown; kept = ap (map event_of) items ∙ sym (take_all room [] (omega arith)); begun = begun; ended = ended };
    code = refl;
    shown = omega (arith, shown);
    begun = omega (arith, begun);
    ended = omega (arith, ended);
    by = omega (arith, clock);
  }

  module _ (list : List Bool) (seen : TellsSeen p o list) where
    pub more_observed : (old mid new : Loaded E) (turn : Turn) (t u : Tally) → Observing v limit p o marked room old mid t
        → Next v list limit mid new turn → CountsUp t u →
        ((events : List Event) → Tallies p o marked room events t → Tallies p o marked room (events ++ events_of turn) u)
        → Observing v limit p o marked room old new u
    more_observed old mid new turn t u r n up tells =
        let es : List Event = n.hidden ++ events_of turn in
        let passed : Tallies p o marked room (r.events ++ n.hidden) t = hidden_more p o list seen marked room r.events n.hidden t n.unseen r.tallies in
        let later = n.later in
        let shown = r.shown in
        let begun = r.begun in
        let ended = r.ended in
        let u1 = up.shown in
        let u2 = up.begun in
        let u3 = up.ended in
        record {
          events = r.events ++ es;
          rest = r.rest ∙ (ap (after_events r.events) n.rest ∙ ap (λ z. let k : Told = record { events = z; end = (rest_of v limit new).end } in
              k) (sym (append_assoc r.events es (rest_of v limit new).events)));
          tallies = same_more p o marked room ((r.events ++ n.hidden) ++ events_of turn) (r.events ++ es) u (append_assoc r.events n.hidden (events_of turn))
              (tells (r.events ++ n.hidden) passed);
          code = n.code ∙ r.code;
          shown = omega arith;
          begun = omega arith;
          ended = omega arith;
          by = n.within;
        }

    pub all_observed : (old mid new : Loaded E) (turn : Turn) (end : RunEnd) (t u : Tally) → Observing v limit p o marked room old mid t
        → Last v list limit mid new turn end → end_of_turn turn ≡ Some end →
        ((events : List Event) → Tallies p o marked room events t → Tallies p o marked room (events ++ events_of turn) u)
        → IsObserved p o marked room limit (rest_of v limit old) (record { tally = u; end = end })
    all_observed old mid new turn end t u r l e tells =
        let es : List Event = r.events ++ l.hidden in
        let passed : Tallies p o marked room es t = hidden_more p o list seen marked room r.events l.hidden t l.unseen r.tallies in
        let told : (rest_of v limit old).events ≡ es = ap (λ z. z.events) r.rest ∙ ap (λ z. r.events ++ z.events) l.rest in
        let same : es ++ events_of turn ≡ es = ap (λ z. es ++ z) (stop_tells turn end e) ∙ append-nil es in
        let now : Tallies p o marked room es u = same_more p o marked room (es ++ events_of turn) es u same (tells es passed) in
        let clock = r.by in
        let shown : u.shown ≡ t.shown = now.shown ∙ sym passed.shown in
        let begun : u.begun ≡ t.begun = now.begun ∙ sym passed.begun in
        let ended : u.ended ≡ t.ended = now.ended ∙ sym passed.ended in
        let s = r.shown in
        let b = r.begun in
        let f = r.ended in
        record {
          tallies = same_more p o marked room es (rest_of v limit old).events u (sym told) now;
          end = sym (ap (λ z. z.end) r.rest ∙ ap (λ z. z.end) l.rest);
          shown = omega arith;
          begun = omega arith;
          ended = omega arith;
        }

-- what a machine at its start still does is the run
pub rest_start : {E : Type 0} (v : Env E) (limit : ℕ) (p : LabelledProgram) (m : Loaded E) (memory : List ℤ) (env : E) (s : Start E) → m.stopped ≡ None
    → m.code ≡ lowered p → seen m.state ≡ start memory env → record { memory = memory; env = env } ≡ s →
    rest_of v limit m ≡ told_by (run_from v (lowered p).instrs limit s)
rest_start v limit p m memory env s going code at is =
    ap (rest_from v limit m.code.instrs m.state) going
    ∙ (ap (λ z. told_by (run_to v z.instrs limit (seen m.state))) code
    ∙ (ap (λ z. told_by (run_to v (lowered p).instrs limit z)) at ∙ ap (λ z. told_by (run_from v (lowered p).instrs limit z)) is))

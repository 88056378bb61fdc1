-- What is known of a run to an observer.
use Rattle.std.specs.Prelude.{◌≡◌, ◌<◌, ◌≤◌, ◌+◌, ℕ, List, map, length, take, Bool, true, false, slice_index_or}
use Rattle.std.proofs.Common.{Vec, Global}
use Rattle.mit_syntax.specs.Declarations.{variables}
use Rattle.timing_types.specs.Labelled.{LabelledProgram, order_of, labels_of}
use Rattle.label_code.specs.Machine.{Event, Wrote}
use Rattle.label_code.specs.Visible.{visible}
use Rattle.label_code.specs.Run.{Start, run_from}
use Rattle.env_contract.specs.Env.{Env}
use Rattle.cycle_machine.specs.declared.turn.Turn.{Turn}
use Rattle.cycle_machine.specs.declared.turn.Turn.TheVariants.{Event as AnEvent, Began as HasBegun, Ended as HasEnded, Halted as DidHalt, Limit as DidLimit}
use Rattle.cycle_machine.specs.Turned.{is_shown_in}
use Rattle.cycle_machine.specs.Rest.{Told, told_by}
use Rattle.code_lower.specs.Lowered.{lowered}
use Rattle.leak_bound.specs.Relevant.{begun_count, ended_count}
use Rattle.leak_audit.specs.declared.sighting.Sighting.{Sighting}
use Rattle.leak_audit.specs.declared.observe.Tally.{Tally}
use Rattle.leak_audit.specs.declared.observe.Observed.{Observed}

-- the event that an observer sees, and the sequence
abbrev pub event_of : Sighting → Event
event_of s = Wrote s.variable s.value s.cycle

abbrev pub sequence_of : Vec Sighting Global → List Event
sequence_of v = map event_of v.items

-- a list says of each variable whether an observer sees its assignments, and of each other number that it does
pub record TellsSeen (p : LabelledProgram) (o : ℕ) (list : List Bool) : Type 0 where
  pub each : (x : ℕ) → x < variables p.program.declarations → is_shown_in list x ≡ (order_of p).flows (labels_of p x) o
  pub others : (x : ℕ) → variables p.program.declarations ≤ x → is_shown_in list x ≡ true

-- the observer sees the assignment of a turn
abbrev pub SeesTurn : LabelledProgram → ℕ → Turn → Type 0
SeesTurn p o (AnEvent x n t) = (order_of p).flows (labels_of p x) o ≡ true
SeesTurn p o (HasBegun k t) = Unit {0}
SeesTurn p o (HasEnded k t) = Unit {0}
SeesTurn p o (DidHalt t) = Unit {0}
SeesTurn p o (DidLimit t) = Unit {0}

-- what a list says of a mark; past its end, that it is not relevant
abbrev pub is_marked : List Bool → ℕ → Bool
is_marked marked k = slice_index_or marked k false

-- A tally of these events of a log: how many the observer sees, the first of them, as many as there is room for,
-- and how many relevant mitigations began and ended.
pub record Tallies (p : LabelledProgram) (o : ℕ) (marked : List Bool) (room : ℕ) (events : List Event) (t : Tally) : Type 0 where
  pub shown : t.shown ≡ length (visible (order_of p) (labels_of p) o events)
  pub kept : sequence_of t.events ≡ take room (visible (order_of p) (labels_of p) o events)
  pub begun : t.begun ≡ begun_count (is_marked marked) events
  pub ended : t.ended ≡ ended_count (is_marked marked) events

-- each count rises by 1 at most
pub record CountsUp (old new : Tally) : Type 0 where
  pub shown : new.shown ≤ old.shown + 1
  pub begun : new.begun ≤ old.begun + 1
  pub ended : new.ended ≤ old.ended + 1

-- what is known of a run to T that tells this: its tally and its end, and no count is above T
pub record IsObserved (p : LabelledProgram) (o : ℕ) (marked : List Bool) (room t : ℕ) (told : Told) (w : Observed) : Type 0 where
  pub tallies : Tallies p o marked room told.events w.tally
  pub end : w.end ≡ told.end
  pub shown : w.tally.shown ≤ t
  pub begun : w.tally.begun ≤ t
  pub ended : w.tally.ended ≤ t

-- what is known of the run to T of a program's image from a start
abbrev pub ObservesRun : {E : Type 0} → Env E → LabelledProgram → ℕ → List Bool → ℕ → ℕ → Start E → Observed → Type 0
ObservesRun v p o marked room t s w = IsObserved p o marked room t (told_by (run_from v (lowered p).instrs t s)) w

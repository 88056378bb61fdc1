-- What a machine still does up to a limit.
use Rattle.std.specs.Prelude.{◌≡◌, ◌<◌, ℕ, List, [], ◌∷◌, cond, Option, Some, None}
use Rattle.env_contract.specs.Env.{Env}
use Rattle.label_code.specs.Machine.{Event, Wrote, Began, Ended, Machine, run_to}
use Rattle.label_code.specs.declared.code.Instr.{Instr}
use Rattle.cycle_machine.specs.declared.state.State.{State}
use Rattle.cycle_machine.specs.declared.turn.Turn.{Turn}
use Rattle.cycle_machine.specs.declared.turn.Turn.TheVariants.{Event as AnEvent, Began as HasBegun, Ended as HasEnded, Halted as DidHalt, Limit as DidLimit}
use Rattle.cycle_machine.specs.Seen.{seen}
use Rattle.cycle_machine.specs.Turned.{Loaded}
use Rattle.cycle_machine.specs.Reached.{Reached}
use Rattle.cycle_machine.specs.declared.end.RunEnd.{RunEnd}
use Rattle.cycle_machine.specs.declared.end.RunEnd.TheVariants.{Halted, Limit}

-- what a run tells: its events, and how it ended
pub record Told : Type 0 where
  pub events : List Event
  pub end : RunEnd

-- what a finished run tells
abbrev pub told_by : {E : Type 0} → Machine E → Told
told_by m = record { events = m.core.log; end = cond m.halted (Halted m.core.clock) (Limit m.core.clock) }

-- the events of a turn
abbrev pub events_of : Turn → List Event
events_of (AnEvent x n t) = Wrote x n t ∷ []
events_of (HasBegun k t) = Began k t ∷ []
events_of (HasEnded k t) = Ended k t ∷ []
events_of (DidHalt t) = []
events_of (DidLimit t) = []

-- the end that an answer tells; one that stops a machine does
abbrev pub end_of_turn : Turn → Option RunEnd
end_of_turn (AnEvent x n t) = None
end_of_turn (HasBegun k t) = None
end_of_turn (HasEnded k t) = None
end_of_turn (DidHalt t) = Some (Halted t)
end_of_turn (DidLimit t) = Some (Limit t)

abbrev pub turn_of : RunEnd → Turn
turn_of (Halted t) = DidHalt t
turn_of (Limit t) = DidLimit t

-- a stopped machine does nothing more and tells its end again
abbrev pub stopped_at : Turn → Told
stopped_at (AnEvent x n t) = record { events = []; end = Limit t }
stopped_at (HasBegun k t) = record { events = []; end = Limit t }
stopped_at (HasEnded k t) = record { events = []; end = Limit t }
stopped_at (DidHalt t) = record { events = []; end = Halted t }
stopped_at (DidLimit t) = record { events = []; end = Limit t }

abbrev pub rest_from : {E : Type 0} → Env E → ℕ → List Instr → State E → Option Turn → Told
rest_from v limit code s None = told_by (run_to v code limit (seen s))
rest_from v limit code s (Some t) = stopped_at t

-- What a machine still does up to a limit: it goes on from where it stands, where its log is empty, as the run
-- to the limit.
abbrev pub rest_of : {E : Type 0} → Env E → ℕ → Loaded E → Told
rest_of v limit m = rest_from v limit m.code.instrs m.state m.stopped

abbrev pub stands_at : {E : Type 0} → Env E → ℕ → Loaded E → State E → Option Turn → Type 0
stands_at v limit old new None = (events : List Event) × Reached v old.code.instrs limit (seen old.state) events new
stands_at v limit old new (Some t) = stopped_at t ≡ record { events = []; end = (rest_of v limit old).end }

-- where a machine stands after some turns: after steps of the run, or stopped at its end
pub record StandsAfter {E : Type 0} (v : Env E) (limit : ℕ) (old new : Loaded E) : Type 0 where
  pub code : new.code ≡ old.code
  pub place : stands_at v limit old new.state new.stopped

-- an assignment is to one of the first so many variables
abbrev pub IsTurnBelow : ℕ → Turn → Type 0
IsTurnBelow k (AnEvent x n t) = x < k
IsTurnBelow k (HasBegun j t) = Unit {0}
IsTurnBelow k (HasEnded j t) = Unit {0}
IsTurnBelow k (DidHalt t) = Unit {0}
IsTurnBelow k (DidLimit t) = Unit {0}

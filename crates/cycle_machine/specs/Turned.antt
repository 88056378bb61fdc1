-- A loaded machine, and what a turn did.
use Rattle.std.specs.Prelude.{◌≡◌, ◌≤◌, ◌<◌, ◌⊎◌, true, false, ℕ, ◌+◌, List, [], ◌∷◌, Bool, Option, Some, None, All, slice_index_or}
use Rattle.label_lattice.specs.Order.{Order}
use Rattle.env_contract.specs.Env.{Env}
use Rattle.label_code.specs.Machine.{Event, Wrote, Began, Ended, Machine, step, steps}
use Rattle.label_code.specs.Shaped.{Code}
use Rattle.label_code.specs.declared.code.Instr.{Instr}
use Rattle.cycle_machine.specs.declared.state.State.{State}
use Rattle.cycle_machine.specs.declared.turn.Turn.{Turn}
use Rattle.cycle_machine.specs.declared.turn.Turn.TheVariants.{Event as AnEvent, Began as HasBegun, Ended as HasEnded, Halted, Limit}
use Rattle.cycle_machine.specs.Seen.{seen, with_log}
use Rattle.cycle_machine.specs.Took.{Stands}

-- an image, where its run stands, and once the machine is stopped its answer
pub record Loaded (E : Type 0) : Type 0 where
  pub code : Code
  pub state : State E
  pub stopped : Option Turn

-- whether assignments to a variable are shown: a list says so by its number, and past the list's end they are
abbrev pub is_shown_in : List Bool → ℕ → Bool
is_shown_in shown x = slice_index_or shown x true

-- an assignment that is not shown
abbrev pub IsHidden : List Bool → Event → Type 0
IsHidden shown (Wrote x n t) = is_shown_in shown x ≡ false
IsHidden shown (Began k t) = ⊥
IsHidden shown (Ended k t) = ⊥

-- So many steps, whose only events are assignments that are not shown, lead to the state, the last of them ending
-- within the limit. Each takes a cycle or more, so there are at most as many as the limit has cycles.
pub record Quiet {E : Type 0} (v : Env E) (code : List Instr) (shown : List Bool) (limit : ℕ) (old mid : State E) : Type 0 where
  pub count : ℕ
  pub hidden : List Event
  pub unseen : All (IsHidden shown) hidden
  pub ends : steps v code count (seen old) ≡ with_log hidden (seen mid)
  pub within : (count ≡ 0) ⊎ (mid.clock ≤ limit)
  pub later : old.clock + count ≤ mid.clock

-- the next step, of a state to which quiet steps lead, is this
pub record Comes {E : Type 0} (v : Env E) (code : List Instr) (shown : List Bool) (limit : ℕ) (old new : State E) (m : Machine E) : Type 0 where
  pub mid : State E
  pub quiet : Quiet v code shown limit old mid
  pub next : step v code (seen mid) ≡ m
  pub within : new.clock ≤ limit
  pub later : mid.clock < new.clock

-- After quiet steps the next step adds the told event to the log, an assignment only if it is shown, or is HALT, and
-- ends within the limit, with the told clock; or it would end after the limit, and the told clock is that before it.
abbrev pub Turned : {E : Type 0} → Env E → Code → List Bool → State E → ℕ → Turn → State E → Type 0
Turned v c shown old limit (AnEvent x n t) new =
    Comes v c.instrs shown limit old new (with_log (Wrote x n t ∷ []) (seen new)) × (t ≡ new.clock) × (is_shown_in shown x ≡ true)
Turned v c shown old limit (HasBegun k t) new = Comes v c.instrs shown limit old new (with_log (Began k t ∷ []) (seen new)) × (t ≡ new.clock)
Turned v c shown old limit (HasEnded k t) new = Comes v c.instrs shown limit old new (with_log (Ended k t ∷ []) (seen new)) × (t ≡ new.clock)
Turned v c shown old limit (Halted t) new = Comes v c.instrs shown limit old new (record (seen new) { halted = true }) × (t ≡ new.clock)
Turned {E} v c shown old limit (Limit t) new =
    (mid : State E) × Quiet v c.instrs shown limit old mid × (limit < (step v c.instrs (seen mid)).core.clock) × (t ≡ mid.clock)

-- HALT and a limit stop the machine
abbrev pub stops : Turn → Option Turn
stops (AnEvent x n t) = None
stops (HasBegun k t) = None
stops (HasEnded k t) = None
stops (Halted t) = Some (Halted t)
stops (Limit t) = Some (Limit t)

-- quiet steps, with which the clock has come past a cycle: of the loop in `run`
pub record WentOn {E : Type 0} (v : Env E) (serves : Order → E → Type 0) (c : Code) (shown : List Bool) (old : State E) (limit last : ℕ)
    (new : State E) : Type 0 where
  pub quiet : Quiet v c.instrs shown limit old new
  pub stands : Stands serves c new
  pub past : last < new.clock

abbrev pub IsStop : Turn → Type 0
IsStop turn = stops turn ≡ Some turn

abbrev pub by_stopped : {E : Type 0} → Env E → List Bool → ℕ → Loaded E → Turn → Loaded E → Option Turn → Type 0
by_stopped v shown limit old turn new None = Turned v old.code shown old.state limit turn new.state × (new.stopped ≡ stops turn) × (new.code ≡ old.code)
by_stopped v shown limit old turn new (Some t) = (turn ≡ t) × (new ≡ old)

-- what a call of `next_shown` did: a stopped machine answers the same and stays as it is
abbrev pub CallWent : {E : Type 0} → Env E → List Bool → ℕ → Loaded E → Turn → Loaded E → Type 0
CallWent v shown limit old turn new = by_stopped v shown limit old turn new old.stopped

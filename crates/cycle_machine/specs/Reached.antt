-- What a caller knows after some turns: their events are the log of a run.
use Rattle.std.specs.Prelude.{true, ◌≡◌, ◌≤◌, ◌<◌, ◌⊎◌, ℕ, List, [], ◌∷◌, ◌++◌, Bool, ℤ}
use Rattle.env_contract.specs.Env.{Env}
use Rattle.label_code.specs.Machine.{Event, Machine, step, steps, start, run_to}
use Rattle.label_code.specs.declared.code.Instr.{Instr}
use Rattle.cycle_machine.specs.declared.state.State.{State}
use Rattle.cycle_machine.specs.Seen.{seen, with_log}
use Rattle.cycle_machine.specs.Turned.{Quiet, Comes}

-- so many steps from the start, the last within the limit, lead to the state with these events in the log
pub record Reached {E : Type 0} (v : Env E) (code : List Instr) (limit : ℕ) (from : Machine E) (events : List Event) (s : State E) : Type 0 where
  pub count : ℕ
  pub ends : steps v code count from ≡ with_log events (seen s)
  pub within : (count ≡ 0) ⊎ (s.clock ≤ limit)

-- a turn with an event goes on with what it passed and that event
abbrev pub TurnsGoOn : {E : Type 0} → Env E → Type 0
TurnsGoOn {E} v = (code : List Instr) (shown : List Bool) (limit : ℕ) (from : Machine E) (events : List Event) (old new : State E) (e : Event) →
    Reached v code limit from events old → (c : Comes v code shown limit old new (with_log (e ∷ []) (seen new)))
    → Reached v code limit from (events ++ (c.quiet.hidden ++ e ∷ [])) new

-- quiet steps go on with what they passed
abbrev pub QuietGoesOn : {E : Type 0} → Env E → Type 0
QuietGoesOn {E} v = (code : List Instr) (shown : List Bool) (limit : ℕ) (from : Machine E) (events : List Event) (old mid : State E) →
    Reached v code limit from events old → (q : Quiet v code shown limit old mid) → Reached v code limit from (events ++ q.hidden) mid

-- where the next step ends after the limit, the run to the limit is there, with these events in its log
abbrev pub LimitIsRun : {E : Type 0} → Env E → Type 0
LimitIsRun {E} v = (code : List Instr) (limit : ℕ) (memory : List ℤ) (e : E) (events : List Event) (s : State E) →
    Reached v code limit (start memory e) events s → limit < (step v code (seen s)).core.clock → run_to v code limit (start memory e) ≡ with_log events (seen s)

-- after HALT the run to the limit is halted there
abbrev pub HaltIsRun : {E : Type 0} → Env E → Type 0
HaltIsRun {E} v = (code : List Instr) (shown : List Bool) (limit : ℕ) (memory : List ℤ) (e : E) (events : List Event) (old new : State E) →
    Reached v code limit (start memory e) events old → (c : Comes v code shown limit old new (record (seen new) { halted = true })) →
    run_to v code limit (start memory e) ≡ record (with_log (events ++ c.quiet.hidden) (seen new)) { halted = true }

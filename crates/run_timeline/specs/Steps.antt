-- What one step did, with what it told.
use Rattle.std.specs.Prelude.{◌≡◌, ◌≤◌, ◌<◌, ℕ, List, [], ◌∷◌, map, reverse, true}
use Rattle.label_lattice.specs.Order.{Order}
use Rattle.env_contract.specs.Env.{Env}
use Rattle.label_code.specs.declared.code.Work.{Work}
use Rattle.label_code.specs.declared.code.Work.TheVariants.{Push, Load, Store, LoadAt, StoreAt, Apply, Brz, Brnz, Jmp, Sleep, Mitb, Mite, Nop, Halt}
use Rattle.label_code.specs.declared.code.Instr.{Instr}
use Rattle.label_code.specs.Machine.{step, fetched, marks_of}
use Rattle.label_code.specs.Shaped.{Code}
use Rattle.cycle_machine.specs.declared.state.State.{State}
use Rattle.cycle_machine.specs.declared.state.Outcome.{Outcome}
use Rattle.cycle_machine.specs.declared.state.Outcome.TheVariants.{Went as DidGo, Wrote as DidWrite, Began as DidBegin, Ended as DidEnd, Halted as DidHalt}
use Rattle.cycle_machine.specs.declared.state.Outcome.TheVariants.{Late}
use Rattle.cycle_machine.specs.Seen.{seen, with_log, core_of, opened_of}
use Rattle.cycle_machine.specs.Took.{Took, Stands}
use Rattle.cycle_machine.specs.declared.end.RunEnd.TheVariants.{Halted, Limit}
use Rattle.run_timeline.specs.declared.moment.Moment.{Moment}
use Rattle.run_timeline.specs.declared.moment.Moment.TheVariants.{Assigned, Begins, Ends}
use Rattle.run_timeline.specs.declared.moment.Step.{Step}
use Rattle.run_timeline.specs.declared.moment.Step.TheVariants.{Went, Told, Stopped}
use Rattle.run_timeline.specs.Timeline.{telling, told, event_of}

-- an instruction that neither begins nor ends a mitigation
abbrev pub IsPlain : Work → Type 0
IsPlain (Push n) = Unit {0}
IsPlain (Load x) = Unit {0}
IsPlain (Store x) = Unit {0}
IsPlain (LoadAt f n) = Unit {0}
IsPlain (StoreAt f n) = Unit {0}
IsPlain (Apply o) = Unit {0}
IsPlain (Brz b) = Unit {0}
IsPlain (Brnz b) = Unit {0}
IsPlain (Jmp b) = Unit {0}
IsPlain Sleep = Unit {0}
IsPlain (Mitb l k) = ⊥
IsPlain Mite = ⊥
IsPlain Nop = Unit {0}
IsPlain Halt = Unit {0}

-- what the machine did
abbrev pub outcome_of : Step → Outcome
outcome_of Went = DidGo
outcome_of (Told (Assigned x n c)) = DidWrite x n
outcome_of (Told (Begins k n d m c)) = DidBegin k
outcome_of (Told (Ends k w d m n c)) = DidEnd k
outcome_of (Stopped (Halted c)) = DidHalt
outcome_of (Stopped (Limit c)) = Late

abbrev pub cycle_of : Moment → ℕ
cycle_of (Assigned x n c) = c
cycle_of (Begins k n d m c) = c
cycle_of (Ends k w d m n c) = c

-- an assignment is to one of the first so many variables
abbrev pub IsMomentBelow : ℕ → Moment → Type 0
IsMomentBelow v (Assigned x n c) = x < v
IsMomentBelow v (Begins k n d m c) = Unit {0}
IsMomentBelow v (Ends k w d m n c) = Unit {0}

-- the told clock is that after the step
abbrev pub HasClock : Step → ℕ → Type 0
HasClock Went c = Unit {0}
HasClock (Told m) c = cycle_of m ≡ c
HasClock (Stopped (Halted t)) c = t ≡ c
HasClock (Stopped (Limit t)) c = t ≡ c

-- these are the moments that it told, if it ended within the limit
abbrev pub HasTold : Step → List Moment → Type 0
HasTold Went ms = ms ≡ []
HasTold (Told m) ms = ms ≡ m ∷ []
HasTold (Stopped (Halted t)) ms = ms ≡ []
HasTold (Stopped (Limit t)) ms = Unit {0}

-- what one instruction did to a state, and what it told
pub record Tells {E : Type 0} (v : Env E) (old : State E) (i : Instr) (limit : ℕ) (d : Step) (new : State E) : Type 0 where
  pub took : Took v old i limit (outcome_of d) new
  pub clock : HasClock d new.clock
  pub tells : HasTold d (telling i.work (reverse old.operands.items) (map opened_of (reverse old.opened.items)) (fetched v (marks_of i) old.place (core_of old))
      new.clock)

-- what one step did
abbrev pub Stepped : {E : Type 0} → Env E → (Order → E → Type 0) → Code → State E → ℕ → Step → State E → Type 0
Stepped v serves c old limit Went new =
    (step v c.instrs (seen old) ≡ seen new) × (new.clock ≤ limit) × (old.clock < new.clock) × Stands serves c new × (told v c.instrs (seen old) ≡ [])
Stepped v serves c old limit (Told m) new =
    (step v c.instrs (seen old) ≡ with_log (event_of m ∷ []) (seen new)) × (new.clock ≤ limit) × (old.clock < new.clock) × Stands serves c new
    × (told v c.instrs (seen old) ≡ m ∷ [])
Stepped v serves c old limit (Stopped (Halted t)) new =
    (step v c.instrs (seen old) ≡ record (seen new) { halted = true }) × (new.clock ≤ limit) × (old.clock < new.clock) × (t ≡ new.clock)
    × (told v c.instrs (seen old) ≡ [])
Stepped v serves c old limit (Stopped (Limit t)) new = (limit < (step v c.instrs (seen old)).core.clock) × (t ≡ old.clock)

-- One step without the wait of a mitigation that ends.
use Rattle.std.specs.Prelude.{◌≡◌, ◌≤◌, ◌<◌, ◌+◌, ◌*◌, ◌++◌, ℕ, List, [], ◌∷◌, ℤ, Bool, true, reverse, slice_get, vec_capacity}
use Rattle.label_lattice.specs.declared.label.Label.{Label}
use Rattle.label_lattice.specs.Order.{Order}
use Rattle.env_contract.specs.Env.{Env}
use Rattle.env_contract.specs.declared.place.Kind.TheVariants as kind
use Rattle.label_code.specs.Machine.{Machine, step}
use Rattle.label_code.specs.Shaped.{Code}
use Rattle.label_code.specs.declared.code.Instr.{Instr}
use Rattle.cycle_machine.specs.declared.state.State.{State}
use Rattle.cycle_machine.specs.declared.state.Open.{Open}
use Rattle.cycle_machine.specs.declared.state.Outcome.{Outcome}
use Rattle.cycle_machine.specs.declared.state.Outcome.TheVariants as did
use Rattle.cycle_machine.specs.Seen.{seen}
use Rattle.cycle_machine.specs.Took.{Stands}
use Rattle.first_replay.specs.Replay.{Entry, entry_of}
use Rattle.entry_run.specs.declared.work.Pace.{Pace}
use Rattle.entry_run.specs.declared.work.Pace.TheVariants.{Went, Halted, Late}

-- what of a machine does not hang on time
pub record Pose (E : Type 0) : Type 0 where
  pub place : ℕ
  pub operands : List ℤ
  pub memory : List ℤ
  pub env : E
  pub halted : Bool

abbrev pub pose : {E : Type 0} → Machine E → Pose E
pose x = record { place = x.place; operands = x.operands; memory = x.core.memory; env = x.core.env; halted = x.halted }

-- the entry of the step that a state makes
abbrev pub entry_at : {E : Type 0} → Env E → List Instr → State E → Entry
entry_at v image s = entry_of v (slice_get image s.place) s.place (reverse s.operands.items) s.env

-- a step took the cycles of its entry, by the limit
pub record Passed {E : Type 0} (v : Env E) (image : List Instr) (limit : ℕ) (old new : State E) : Type 0 where
  pub clock : new.clock ≡ old.clock + (entry_at v image old).cost
  pub later : old.clock < new.clock
  pub within : new.clock ≤ limit

-- what a step did: it went on, and all but time is as after a step of the machine; it was HALT; or its cycles alone end
-- after the limit
abbrev pub Worked : {E : Type 0} → Env E → (Order → E → Type 0) → Code → State E → ℕ → Pace → State E → Type 0
Worked v serves c old limit Went new =
    (pose (step v c.instrs (seen old)) ≡ pose (seen new)) × Passed v c.instrs limit old new × Stands serves c new
Worked v serves c old limit Halted new =
    (pose (step v c.instrs (seen old)) ≡ pose (record (seen new) { halted = true })) × Passed v c.instrs limit old new
Worked v serves c old limit Late new = limit < old.clock + (entry_at v c.instrs old).cost

-- a mitigation ended without its wait
pub record ClosedAtOnce {E : Type 0} (v : Env E) (serves : Order → E → Type 0) (er ew : Label) (limit : ℕ) (old new : State E) : Type 0 where
  pub place : new.place ≡ old.place + 1
  pub operands : new.operands ≡ old.operands
  pub memory : new.memory ≡ old.memory
  pub env : new.env ≡ v.next_of kind.Code (4 * old.place) er.number ew.number old.env
  pub clock : new.clock ≡ old.clock + (1 + v.cost_of kind.Code (4 * old.place) er.number ew.number old.env)
  pub within : new.clock ≤ limit
  pub opened : (o : Open) × (old.opened.items ≡ new.opened.items ++ o ∷ [])
  pub room : vec_capacity old.opened ≤ vec_capacity new.opened
  pub lattices : (order : Order) → serves order old.env → serves order new.env

abbrev pub pace_of : Outcome → Pace
pace_of did.Went = Went
pace_of (did.Wrote x n) = Went
pace_of (did.Began k) = Went
pace_of (did.Ended k) = Went
pace_of did.Halted = Halted
pace_of did.Late = Late

-- What one instruction needs, and what it makes of a state.
use Rattle.std.specs.Prelude.{◌≡◌, ◌≤◌, ◌<◌, ℕ, ◌+◌, [], ◌∷◌, map, reverse, true, vec_len, vec_capacity, length}
use Rattle.label_lattice.specs.declared.label.Label.{Label}
use Rattle.label_lattice.specs.Order.{Order, most_labels}
use Rattle.env_contract.specs.Env.{Env}
use Rattle.label_code.specs.Machine.{Wrote, Began, Ended, Machine, act, fetched, marks_of, step}
use Rattle.label_code.specs.Shaped.{Code, Depths, HasDepths, InRange, takes, leaves, opens, closes}
use Rattle.label_code.specs.declared.code.Instr.{Instr}
use Rattle.cycle_machine.specs.declared.state.Outcome.{Outcome}
use Rattle.cycle_machine.specs.declared.state.Outcome.TheVariants.{Went, Wrote as DidWrite, Began as DidBegin, Ended as DidEnd, Halted, Late}
use Rattle.cycle_machine.specs.declared.state.State.{State}
use Rattle.cycle_machine.specs.Seen.{seen, with_log, core_of, opened_of}

-- the environment serves a lattice of which both are labels
abbrev pub IsServed : {E : Type 0} → (Order → E → Type 0) → E → Label → Label → Type 0
IsServed serves e er ew = (order : Order) × (serves order e × (er.number < order.size) × (ew.number < order.size))

-- what the instruction makes of the state
abbrev pub after : {E : Type 0} → Env E → Instr → State E → Machine E
after v i s =
    act v (marks_of i) i.work s.place (reverse s.operands.items) (map opened_of (reverse s.opened.items))
    (fetched v (marks_of i) s.place (core_of s))

-- what one instruction did to a state: it ended within the limit and its event is told, or it would end after it
abbrev pub Took : {E : Type 0} → Env E → State E → Instr → ℕ → Outcome → State E → Type 0
Took v old i limit Went new = (after v i old ≡ seen new) × (new.clock ≤ limit)
Took v old i limit (DidWrite x n) new = (after v i old ≡ with_log (Wrote x n new.clock ∷ []) (seen new)) × (new.clock ≤ limit)
Took v old i limit (DidBegin k) new = (after v i old ≡ with_log (Began k new.clock ∷ []) (seen new)) × (new.clock ≤ limit)
Took v old i limit (DidEnd k) new = (after v i old ≡ with_log (Ended k new.clock ∷ []) (seen new)) × (new.clock ≤ limit)
Took v old i limit Halted new = (after v i old ≡ record (seen new) { halted = true }) × (new.clock ≤ limit)
Took v old i limit Late new = (limit < (after v i old).core.clock) × (new.clock ≡ old.clock)

-- what stays: room, the number of variables, and the lattices that the environment serves
pub record Keeps {E : Type 0} (serves : Order → E → Type 0) (old new : State E) : Type 0 where
  pub operands : vec_capacity old.operands ≤ vec_capacity new.operands
  pub opened : vec_capacity old.opened ≤ vec_capacity new.opened
  pub memory : length new.memory.items ≡ length old.memory.items
  pub lattices : (order : Order) → serves order old.env → serves order new.env

-- the depths at the machine's place are its own
pub record IsThere {E : Type 0} (ds : Depths) (size : ℕ) (m : Machine E) : Type 0 where
  pub within : m.place < size
  pub operands : length m.operands ≡ ds.operands m.place
  pub nesting : length m.opened ≡ ds.nesting m.place

-- a state that can go on in an image, with room for all operands and open mitigations of the run
pub record Stands {E : Type 0} (serves : Order → E → Type 0) (c : Code) (s : State E) : Type 0 where
  pub depths : (ds : Depths) × HasDepths c ds × IsThere ds (length c.instrs) (seen s)
  pub operands : c.operands ≤ vec_capacity s.operands
  pub opened : c.nesting ≤ vec_capacity s.opened
  pub memory : length s.memory.items ≡ c.variables
  pub labels : c.order.size ≤ most_labels
  pub served : serves c.order s.env

-- a state that the instruction fits
pub record Fits {E : Type 0} (i : Instr) (s : State E) : Type 0 where
  pub place : s.place < 200000
  pub operands : takes i.work ≤ vec_len s.operands
  pub room : vec_len s.operands + leaves i.work ≤ vec_capacity s.operands + takes i.work
  pub opened : closes i.work ≤ vec_len s.opened
  pub nesting : vec_len s.opened + opens i.work ≤ vec_capacity s.opened + closes i.work
  pub few : vec_len s.memory ≤ 3072
  pub range : InRange (vec_len s.memory) most_labels i.work

-- what one step did
abbrev pub Stepped : {E : Type 0} → Env E → (Order → E → Type 0) → Code → State E → ℕ → Outcome → State E → Type 0
Stepped v serves c old limit Went new = (step v c.instrs (seen old) ≡ seen new) × (new.clock ≤ limit) × (old.clock < new.clock) × Stands serves c new
Stepped v serves c old limit (DidWrite x n) new = (step v c.instrs (seen old) ≡ with_log (Wrote x n new.clock ∷ []) (seen new)) × (new.clock ≤ limit)
    × (old.clock < new.clock) × Stands serves c new
Stepped v serves c old limit (DidBegin k) new = (step v c.instrs (seen old) ≡ with_log (Began k new.clock ∷ []) (seen new)) × (new.clock ≤ limit)
    × (old.clock < new.clock) × Stands serves c new
Stepped v serves c old limit (DidEnd k) new = (step v c.instrs (seen old) ≡ with_log (Ended k new.clock ∷ []) (seen new)) × (new.clock ≤ limit)
    × (old.clock < new.clock) × Stands serves c new
Stepped v serves c old limit Halted new = (step v c.instrs (seen old) ≡ record (seen new) { halted = true }) × (new.clock ≤ limit) × (old.clock < new.clock)
Stepped v serves c old limit Late new = (limit < (step v c.instrs (seen old)).core.clock) × (new.clock ≡ old.clock)

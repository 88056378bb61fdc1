-- What is said of the image of a labelled program, typed or not.
use Rattle.std.specs.Prelude.{◌≡◌, ◌<◌, ◌+◌, ℕ, length, Bool, true, false}
use Rattle.label_lattice.specs.Lattice.{IsLattice}
use Rattle.label_lattice.specs.Order.{Order}
use Rattle.timing_types.specs.Labelled.{LabelledProgram, order_of, labels_of}
use Rattle.env_contract.specs.Env.{Env}
use Rattle.label_code.specs.Run.{Start}
use Rattle.code_lower.specs.Lowered.{lowered}
use Rattle.steady_code.specs.declared.costing.Costing.{Costing}
use Rattle.steady_code.specs.Costing.{OpCosts, HasCosts, settled_by}
use Rattle.steady_code.specs.Plain.{IsClear, IsFirst}
use Rattle.steady_code.specs.Tail.{IsLastSeen}
use Rattle.steady_code.specs.Timed.{AgreeTo, low_of, felt_of, seen_of, InTime}
use Rattle.steady_code.specs.declared.fault.Fault.{Fault}

-- No instruction of the image has a fault, by the costs of operators that are asked about, for an observer and the label
-- below which environments agree. Nothing is asked from the place end on, but that nothing is seen there.
abbrev pub IsSteady : Costing → LabelledProgram → ℕ → ℕ → ℕ → Type 0
IsSteady costing q o h end = IsClear (settled_by costing) (low_of (order_of q) (labels_of q) o) (felt_of (order_of q) h) (lowered q).instrs end

-- the first instruction that has one
abbrev pub IsFirstFault : Costing → LabelledProgram → ℕ → ℕ → ℕ → Fault → Type 0
IsFirstFault costing q o h end f =
    IsFirst (settled_by costing) (low_of (order_of q) (labels_of q) o) (felt_of (order_of q) h) (lowered q).instrs end f.place f.reason

-- Up to where something is asked: of the whole run up to past the image, else up to the last thing that is seen.
abbrev pub IsEnd : LabelledProgram → ℕ → Bool → ℕ → Type 0
IsEnd q o true end = end ≡ length (lowered q).instrs + 1
IsEnd q o false end = IsLastSeen (low_of (order_of q) (labels_of q) o) (lowered q).instrs end

-- of starts that agree one sequence is seen, whichever of these costs operators have
abbrev pub SteadyShowsOne : {E : Type 0} → Env E → (Order → E → Type 0) → Type 0
SteadyShowsOne {E} v serves = (costing : Costing) (cost : OpCosts) → HasCosts costing cost →
    (q : LabelledProgram) (o h end : ℕ) → IsLattice (order_of q) → IsSteady costing q o h end → (t : ℕ) (s s' : Start E) →
    AgreeTo v (order_of q) (serves q.program.order) (labels_of q) o h s s' →
    seen_of cost v (order_of q) (labels_of q) (lowered q).instrs o t s ≡ seen_of cost v (order_of q) (labels_of q) (lowered q).instrs o t s'

-- where something is asked of each instruction, runs are at one place and at one clock, and end together
abbrev pub SteadyInTime : {E : Type 0} → Env E → (Order → E → Type 0) → Type 0
SteadyInTime {E} v serves = (costing : Costing) (cost : OpCosts) → HasCosts costing cost →
    (q : LabelledProgram) (o h end : ℕ) → IsLattice (order_of q) → length (lowered q).instrs < end → IsSteady costing q o h end →
    (t : ℕ) (s s' : Start E) → AgreeTo v (order_of q) (serves q.program.order) (labels_of q) o h s s' → InTime cost v (lowered q).instrs t s s'

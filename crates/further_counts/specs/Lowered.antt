-- Runs after each other, of labelled programs.
use Rattle.std.specs.Prelude.{◌≡◌, ℕ, ◌<◌}
use Rattle.mit_syntax.specs.Program.{plan_of}
use Rattle.label_lattice.specs.Order.{Order, lattice_of}
use Rattle.timing_types.specs.Labelled.{LabelledProgram, labels_of, levels_of}
use Rattle.env_contract.specs.Env.{Env}
use Rattle.code_lower.specs.Lowered.{lowered}
use Rattle.label_code.specs.Run.{Start}
use Rattle.leak_bound.specs.Sound.{Agree, Halts}
use Rattle.leak_bound.specs.Source.{IsTypedWith}
use Rattle.further_counts.specs.Many.{SharpMany}
use Rattle.further_counts.specs.Twice.{left_by}

-- any number of runs after each other, each of a labelled program over one lattice
abbrev pub LoweredManyAll : {E : Type 0} → Type 0 → Env E → (Order → E → Type 0) → Type 0
LoweredManyAll X v serves =
    (order : Order) (q : ℕ → LabelledProgram) → ((i : ℕ) → IsTypedWith (q i) × ((q i).program.order ≡ order)) →
    SharpMany X v order (serves order) (λ i. labels_of (q i)) (λ i. levels_of (q i)) (λ i. (lowered (q i)).instrs) (λ i. plan_of (q i).program)

abbrev pub LoweredLeavesAgree : {E : Type 0} → Env E → (Order → E → Type 0) → Type 0
LoweredLeavesAgree {E} v serves =
    (q : LabelledProgram) → IsTypedWith q →
    (o : ℕ) → o < q.program.order.size → (t : ℕ) (s s' : Start E) → Agree v (lattice_of q.program.order) (serves q.program.order) (labels_of q) o s s' →
    Halts v (lowered q).instrs t s → Halts v (lowered q).instrs t s' →
    Agree v (lattice_of q.program.order) (serves q.program.order) (labels_of q) o (left_by v (lowered q).instrs t s) (left_by v (lowered q).instrs t s')

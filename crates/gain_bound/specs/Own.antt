-- The same by own first predictions.
use Rattle.std.specs.Prelude.{ℕ, ◌<◌, List, length, Bool}
use Rattle.mit_syntax.specs.Todo.{Todo, Marked, commands_of}
use Rattle.mit_syntax.specs.Program.{plan_of}
use Rattle.label_lattice.specs.Order.{Order, lattice_of}
use Rattle.timing_types.specs.Labelled.{LabelledProgram, labels_of, levels_of, bare_of}
use Rattle.env_contract.specs.Env.{Env}
use Rattle.label_code.specs.Run.{Start}
use Rattle.label_code.specs.declared.code.Instr.{Instr}
use Rattle.code_lower.specs.Lowered.{lowered}
use Rattle.leak_bound.specs.Relevant.{is_relevant}
use Rattle.leak_bound.specs.Records.{Each, Pairwise, Tests}
use Rattle.leak_bound.specs.Sound.{Agree, seen_from, Halts}
use Rattle.leak_bound.specs.Source.{IsTypedWith}
use Rattle.sharp_bound.specs.End.{seen_to_end, EndsLow}
use Rattle.sharp_bound.specs.Shared.{StandApart}
use Rattle.sharp_bound.specs.Sharp.{BeginsEach}
use Rattle.own_firsts.specs.Predicted.{PredictsOwnBy}
use Rattle.own_firsts.specs.Ways.{AreOwnWays}
use Rattle.gain_bound.specs.Worth.{FewWorth}

-- Where no relevant mitigate stands in another, a view of the runs from starts that agree and halt by T is worth at most as
-- many as there are ways in which their mitigations can end, each with its own first prediction.
abbrev pub WorthOwn : {E V M L : Type 0} → Type 0 → Env E → Order → (E → Type 0) → (ℕ → ℕ) → (ℕ → ℕ) → List Instr → Todo M L → ℕ → ℕ → (Start E → V) → Type 0
WorthOwn {E} {V} A v order serves g ls image p o t view =
    StandApart (is_relevant (lattice_of order) g ls o p) (commands_of p) →
    (starts : List (Start E)) →
    Pairwise (Agree v (lattice_of order) serves g o) starts → Each (Halts v image t) starts →
    (firsts : ℕ → ℕ → ℕ) → Each (λ s. PredictsOwnBy v (lattice_of order) g ls image p o t firsts s) starts →
    (same : V → V → Bool) → Tests same →
    (counts : ℕ → ℕ)
    × Each (λ s. BeginsEach (lattice_of order) g ls o p s.memory counts) starts
    × ((ways : List (List (List ℕ))) → AreOwnWays t firsts order.size counts ways → FewWorth A view same starts (length ways))

pub record OwnIsWorth {E M L : Type 0} (A : Type 0) (v : Env E) (order : Order) (serves : E → Type 0) (g ls : ℕ → ℕ) (image : List Instr) (typed : Marked)
    (p : Todo M L) : Type 0 where
  pub timed : (o : ℕ) → o < order.size → (t : ℕ) → 0 < t → WorthOwn A v order serves g ls image p o t (seen_from v (lattice_of order) g image o t)
  pub ended : (o : ℕ) → o < order.size → EndsLow (lattice_of order) g typed o → (t : ℕ) → 0 < t
      → WorthOwn A v order serves g ls image p o t (seen_to_end v (lattice_of order) g image o t)

abbrev pub LoweredOwnIsWorth : {E : Type 0} → Type 0 → Env E → (Order → E → Type 0) → Type 0
LoweredOwnIsWorth A v serves = (q : LabelledProgram) → IsTypedWith q →
    OwnIsWorth A v q.program.order (serves q.program.order) (labels_of q) (levels_of q) (lowered q).instrs (bare_of q) (plan_of q.program)

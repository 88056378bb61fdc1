-- Runs that tell that they halted have halted.
use Rattle.std.proofs.Common.{◌≡◌, ℕ, List, [], ◌∷◌, All, Bool, true, false, cond, refl}
use Rattle.std.proofs.lemmas.List.Elements.{All-head, All-tail}
use Rattle.label_lattice.specs.Order.{Order}
use Rattle.timing_types.specs.Labelled.{LabelledProgram}
use Rattle.env_contract.specs.declared.place.Touch.{Touch}
use Rattle.env_contract.specs.Env.{Env}
use Rattle.label_code.specs.Machine.{Machine}
use Rattle.code_lower.specs.Lowered.{lowered}
use Rattle.cycle_machine.specs.Rest.{told_by}
use Rattle.cycle_machine.specs.declared.end.RunEnd.TheVariants.{Halted, Limit}
use Rattle.start_file.specs.Starts.{StartValue}
use Rattle.leak_bound.specs.Records.{Each}
use Rattle.leak_bound.specs.Sound.{Halts}
use Rattle.leak_audit.specs.Agreement.{start_of, starts_of}
use Rattle.leak_audit.specs.Surveyed.{run_of}
use Rattle.tool_stages.specs.Goes.{IsHalted}

has_halted : (b : Bool) (c : ℕ) → IsHalted (cond b (Halted c) (Limit c)) → b ≡ true
has_halted true c h = refl
has_halted false c h = absurd h

pub all_halt : {E : Type 0} (v : Env E) (made : Order → List Touch → E) (p : LabelledProgram) (t : ℕ) (ss : List StartValue)
    → All (λ s. IsHalted (told_by (run_of v p t (start_of made p.program.order s))).end) ss
    → Each (Halts v (lowered p).instrs t) (starts_of made p.program.order ss)
all_halt {E} v made p t [] h = tt
all_halt {E} v made p t (s ∷ ss) h =
    let P : StartValue → Type 0 = λ z. IsHalted (told_by (run_of v p t (start_of made p.program.order z))).end in
    let m : Machine E = run_of v p t (start_of made p.program.order s) in
    (has_halted m.halted m.core.clock (All-head P s ss h), all_halt v made p t ss (All-tail P s ss h))

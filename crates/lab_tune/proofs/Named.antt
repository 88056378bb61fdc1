-- The best choices in the environments of a maker are those of its machine.
use Rattle.std.proofs.Common.{◌≡◌, ◌⊎◌, ℕ, List, All, inl, inr, sym, ap, ◌∙◌, subst}
use Rattle.std.specs.Prelude.{Bool}
use Rattle.label_lattice.specs.Order.{Order}
use Rattle.env_contract.specs.declared.place.Touch.{Touch}
use Rattle.env_contract.specs.Env.{Env}
use Rattle.part_tlb.specs.declared.bank.Hardware.{Hardware}
use Rattle.part_tlb.specs.Machine.{hardware_by_history}
use Rattle.label_code.specs.Shaped.{Code, IsShaped}
use Rattle.timing_types.specs.Labelled.{LabelledProgram}
use Rattle.code_lower.specs.Lowered.{lowered}
use Rattle.history_bound.specs.Over.{history_made}
use Rattle.start_file.specs.Starts.{StartValue, IsFor}
use Rattle.first_front.specs.declared.interval.Interval.{Interval}
use Rattle.first_image.specs.Tuned.{IsPlaceOf}
use Rattle.start_tune.specs.Runs.{Fits, AreBest, IsTooLate, OneIsUnending}
use Rattle.start_tune.specs.Alike.{BestAreAlike}
use Rattle.tool_stages.specs.declared.envs.Environment.{Environment}
use Rattle.tool_stages.specs.Envs.{environment, hardware_of}
use Rattle.lab_tune.specs.Answer.{relevant_in, BestIn, TooLongIn}

fits_image : (q : LabelledProgram) (ss : List StartValue) → All (IsFor q.program) ss → All (Fits (lowered q)) ss
fits_image q ss h = λ k d lt. let f = h k d lt in record { memory = f.memory; touches = f.touches }

pub fits_all : (q : LabelledProgram) (code : Code) (xs ss : List StartValue) → code ≡ lowered q → xs ≡ ss → All (IsFor q.program) ss → All (Fits code) xs
fits_all q code xs ss image same h =
    subst (λ (z : Code). All (Fits z) xs) (sym image) (fits_image q xs (subst (λ (z : List StartValue). All (IsFor q.program) z) (sym same) h))

pub place_here : (q : LabelledProgram) (code : Code) (mark place : ℕ) → code ≡ lowered q → IsPlaceOf (lowered q).instrs mark place
    → IsPlaceOf code.instrs mark place
place_here q code mark place image h = subst (λ (z : Code). IsPlaceOf z.instrs mark place) (sym image) h

module _ {E : Type 0} (v : Env E) (made : Order → List Touch → E) (w : Order → Env (List Touch)) (e : Environment) (hw : Hardware) (is : hardware_of e ≡ hw)
    (means : w ≡ hardware_by_history hw) (alike : BestAreAlike v made w history_made) (q : LabelledProgram) (code : Code) (shaped : IsShaped code)
    (image : code ≡ lowered q) (xs ss : List StartValue) (same : xs ≡ ss) (starts : All (IsFor q.program) ss) (t o mark : ℕ)
    (marked : List Bool) (such : marked ≡ relevant_in q o) where
  env_is : w ≡ environment e
  env_is = means ∙ ap hardware_by_history (sym is)

  fit : All (Fits code) xs
  fit = fits_all q code xs ss image same starts

  pub best_here : (ns : List Interval) → AreBest v made t code mark marked xs ns → BestIn e t q o mark ss ns
  best_here ns h =
      let a = alike.best code shaped xs fit t mark (relevant_in q o) ns (subst (λ (z : List Bool). AreBest v made t code mark z xs ns) such h) in
      let b : AreBest (w (lowered q).order) history_made t (lowered q) mark (relevant_in q o) xs ns =
      subst (λ (z : Code). AreBest (w z.order) history_made t z mark (relevant_in q o) xs ns) image a in
      let c : AreBest (w (lowered q).order) history_made t (lowered q) mark (relevant_in q o) ss ns =
      subst (λ (z : List StartValue). AreBest (w (lowered q).order) history_made t (lowered q) mark (relevant_in q o) z ns) same b in
      subst (λ (z : Order → Env (List Touch)). AreBest (z (lowered q).order) history_made t (lowered q) mark (relevant_in q o) ss ns) env_is c

  pub late_here : OneIsUnending v made t code xs ⊎ IsTooLate v made t code mark marked xs → TooLongIn e t q o mark ss
  late_here (inl h) =
      let a = alike.unending code shaped xs fit t h in
      let b : OneIsUnending (w (lowered q).order) history_made t (lowered q) xs = subst (λ (z : Code). OneIsUnending (w z.order) history_made t z xs) image a in
      let c : OneIsUnending (w (lowered q).order) history_made t (lowered q) ss =
      subst (λ (z : List StartValue). OneIsUnending (w (lowered q).order) history_made t (lowered q) z) same b in
      inl (subst (λ (z : Order → Env (List Touch)). OneIsUnending (z (lowered q).order) history_made t (lowered q) ss) env_is c)
  late_here (inr h) =
      let a = alike.late code shaped xs fit t mark (relevant_in q o) (subst (λ (z : List Bool). IsTooLate v made t code mark z xs) such h) in
      let b : IsTooLate (w (lowered q).order) history_made t (lowered q) mark (relevant_in q o) xs =
      subst (λ (z : Code). IsTooLate (w z.order) history_made t z mark (relevant_in q o) xs) image a in
      let c : IsTooLate (w (lowered q).order) history_made t (lowered q) mark (relevant_in q o) ss =
      subst (λ (z : List StartValue). IsTooLate (w (lowered q).order) history_made t (lowered q) mark (relevant_in q o) z) same b in
      inr (subst (λ (z : Order → Env (List Touch)). IsTooLate (z (lowered q).order) history_made t (lowered q) mark (relevant_in q o) ss) env_is c)

pub place_there : (q : LabelledProgram) (code : Code) (mark place : ℕ) → code ≡ lowered q → IsPlaceOf code.instrs mark place
    → IsPlaceOf (lowered q).instrs mark place
place_there q code mark place image h = subst (λ (z : Code). IsPlaceOf z.instrs mark place) image h

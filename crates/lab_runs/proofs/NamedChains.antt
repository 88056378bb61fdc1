-- What questions about an accepted program begin with: they go on, give one answer, and no stop is a write fault.
use Rattle.std.proofs.Common.{◌≡◌, ℕ, List, Option, Some, inl, inr}
use Rattle.label_lattice.specs.declared.label.Label.{Label}
use Rattle.mit_syntax.specs.Program.{Syntax}
use Rattle.parse_laws.proofs.Meant.{program_order}
use Rattle.timing_types.specs.Labelled.{LabelledProgram}
use Rattle.label_code.specs.Shaped.{Code}
use Rattle.code_lower.specs.Lowered.{lowered}
use Rattle.start_file.specs.Starts.{StartValue}
use Rattle.tool_texts.specs.declared.status.Status.{Status}
use Rattle.tool_texts.specs.declared.status.Status.TheVariants as status
use Rattle.tool_stages.specs.Stages.{Then, Reads, ProgramStops, Observes, Types, TypeStops, HasImage, ImageStops}
use Rattle.tool_stages.specs.Content.{Content, IsKnown}
use Rattle.tool_stages.specs.Goes.{CanCompile}
use Rattle.tool_stages.proofs.ChainLemmas.{reads_one, lower_one, lower_goes}
use Rattle.tool_stages.proofs.GoesLemmas.{then_goes_from, program_goes}
use Rattle.tool_stages.proofs.OneFirst.{one_observer}
use Rattle.tool_stages.proofs.OneLemmas.{Same, then_one, one_program}
use Rattle.space_stage.specs.Listed.{IsListed, ListedStops}
use Rattle.space_stage.proofs.Listing.{one_list, listed_go, one_listed_stop, listed_done, listed_no_fault}
use Rattle.lab_runs.specs.Labels.{UnnamedStops, observer_option, NamesAndCompiles, NamesAndPrepares}
use Rattle.lab_runs.proofs.NameLemmas.{one_unnamed_stop, unnamed_goes}

-- ---- none of them stops

pub compiles_go : (Rises : List ℕ → Type 0) (content : Content) (file : List ℕ) (observer : Option (List ℕ))
    (Can : Syntax → LabelledProgram → Option Label → Type 0) (Next : Syntax → LabelledProgram → Option Label → Code → Status → List ℕ → Type 0) (s : Status)
    (t : List ℕ)
    → (Rises file → ⊥) → IsKnown (content file) → CanCompile (content file) observer Can
    → ((p : Syntax) (q : LabelledProgram) (o : Option Label) (code : Code) → code ≡ lowered q → Can p q o → Next p q o code s t → s ≡ status.Done)
    → NamesAndCompiles Rises content file observer Next s t → s ≡ status.Done
compiles_go Rises content file observer Can Next s t n known can f h =
    let p : Syntax = can.0 in
    let o : Option Label = can.2 in
    then_goes_from (ProgramStops (Rises file) (content file)) (Reads (content file))
    (λ p. Then (UnnamedStops observer_option p.order observer) (Observes p.order observer)
    (λ o. Then (TypeStops p) (Types p) (λ q. Then (ImageStops q) (HasImage q) (λ code. Next p q o code)))) s t
    p can.1 (one_program (content file) known) (program_goes (Rises file) (content file) p s t n known can.1)
    (then_goes_from (UnnamedStops observer_option p.order observer) (Observes p.order observer)
    (λ o. Then (TypeStops p) (Types p) (λ q. Then (ImageStops q) (HasImage q) (λ code. Next p q o code))) s t
    o can.3 (λ a b. one_observer p.order observer a b (program_order _ p can.1.spelled)) (unnamed_goes observer_option p.order observer o s t can.3)
    (lower_goes p (λ q. Can p q o) (λ q code. Next p q o code) s t can.4 (λ q code. f p q o code))) h

module _ (s : Status) (t : List ℕ) where
  pub prepared_done : (files : List ℕ → Type 0) (content' : Content) (file observer : List ℕ) (Rose : Type 0) (c : Option (Option (List ℕ)))
      (Can : LabelledProgram → Option Label → List StartValue → Type 0)
      (Next : Syntax → LabelledProgram → Option Label → Code → List StartValue → Status → List ℕ → Type 0)
      → (files file → ⊥) → IsKnown (content' file) → (Rose → ⊥) → IsKnown c
      → CanCompile (content' file) (Some observer) (λ p q o. (ss : List StartValue) × IsListed c p ss × Can q o ss)
      → ((p : Syntax) (q : LabelledProgram) (o : Option Label) (code : Code) (ss : List StartValue) → Can q o ss → Next p q o code ss s t → s ≡ status.Done)
      → NamesAndPrepares files content' file observer Rose c Next s t → s ≡ status.Done
  prepared_done files content' file observer Rose c Can Next n known m kept can f h =
      compiles_go files content' file (Some observer) (λ p q o. (ss : List StartValue) × IsListed c p ss × Can q o ss)
      (λ p q o code. Then (ListedStops Rose c p) (IsListed c p) (λ ss. Next p q o code ss)) s t n known can
      (λ p q o code image goes. listed_done c kept p s t Rose (λ ss. Next p q o code ss) goes.0 m goes.1 (f p q o code goes.0 goes.2)) h

-- ---- all give one answer

module _ (s u : Status) (t x : List ℕ) where
  pub compiles_one : (Rises : List ℕ → Type 0) (content : Content) (file : List ℕ) (observer : Option (List ℕ))
      (Next : Syntax → LabelledProgram → Option Label → Code → Status → List ℕ → Type 0)
      → (Rises file → ⊥) → IsKnown (content file) → ((p : Syntax) (q : LabelledProgram) (o : Option Label) (code : Code) → Next p q o code s t
      → Next p q o code u x → Same s u t x)
      → NamesAndCompiles Rises content file observer Next s t → NamesAndCompiles Rises content file observer Next u x → Same s u t x
  compiles_one Rises content file observer Next n known next =
      reads_one s u t x (Rises file) (content file)
      (λ p. Then (UnnamedStops observer_option p.order observer) (Observes p.order observer)
      (λ o. Then (TypeStops p) (Types p) (λ q. Then (ImageStops q) (HasImage q) (λ code. Next p q o code)))) n known (λ p order.
      then_one (UnnamedStops observer_option p.order observer) (Observes p.order observer)
      (λ o. Then (TypeStops p) (Types p) (λ q. Then (ImageStops q) (HasImage q) (λ code. Next p q o code))) s u t x
      (one_unnamed_stop observer_option p.order observer s u t x) (λ o v y. unnamed_goes observer_option p.order observer o v y)
      (λ a b. one_observer p.order observer a b order) (λ o sees.
      lower_one s u t x p (λ q code. Next p q o code) order (λ q code. next p q o code)))

  pub prepares_one : (Rises : List ℕ → Type 0) (content : Content) (file observer : List ℕ) (Rose : Type 0) (c : Option (Option (List ℕ)))
      (Next : Syntax → LabelledProgram → Option Label → Code → List StartValue → Status → List ℕ → Type 0)
      → (Rises file → ⊥) → IsKnown (content file) → (Rose → ⊥) → IsKnown c
      → ((p : Syntax) (q : LabelledProgram) (o : Option Label) (code : Code) (ss : List StartValue) → Next p q o code ss s t
      → Next p q o code ss u x → Same s u t x)
      → NamesAndPrepares Rises content file observer Rose c Next s t → NamesAndPrepares Rises content file observer Rose c Next u x → Same s u t x
  prepares_one Rises content file observer Rose c Next n known m kept next =
      compiles_one Rises content file (Some observer) (λ p q o code. Then (ListedStops Rose c p) (IsListed c p) (λ ss. Next p q o code ss)) n known
      (λ p q o code.
      then_one (ListedStops Rose c p) (IsListed c p) (λ ss. Next p q o code ss) s u t x (one_listed_stop c kept p Rose s u t x m)
      (λ ss v y are. listed_go c kept p Rose ss v y m are)
      (one_list c kept p) (λ ss are. next p q o code ss))

-- ---- no stop is a write fault

pub compiles_no_fault : (Rises : List ℕ → Type 0) (content : Content) (file : List ℕ) (observer : Option (List ℕ))
    (Next : Syntax → LabelledProgram → Option Label → Code → Status → List ℕ → Type 0) (t : List ℕ)
    → ((p : Syntax) (q : LabelledProgram) (o : Option Label) (code : Code) → Next p q o code status.WriteFault t → ⊥)
    → NamesAndCompiles Rises content file observer Next status.WriteFault t → ⊥
compiles_no_fault Rises content file observer Next t f (inl h) = h
compiles_no_fault Rises content file observer Next t f (inr (p, reads, inl h)) = h
compiles_no_fault Rises content file observer Next t f (inr (p, reads, inr (o, sees, inl h))) = h
compiles_no_fault Rises content file observer Next t f (inr (p, reads, inr (o, sees, inr (q, types, inl h)))) = h
compiles_no_fault Rises content file observer Next t f (inr (p, reads, inr (o, sees, inr (q, types, inr (code, image, h))))) = f p q o code h

pub prepares_no_fault : (Rises : List ℕ → Type 0) (content : Content) (file observer : List ℕ) (R : Type 0) (held : Option (Option (List ℕ)))
    (Next : Syntax → LabelledProgram → Option Label → Code → List StartValue → Status → List ℕ → Type 0) (t : List ℕ)
    → ((p : Syntax) (q : LabelledProgram) (o : Option Label) (code : Code) (ss : List StartValue) → Next p q o code ss status.WriteFault t → ⊥)
    → NamesAndPrepares Rises content file observer R held Next status.WriteFault t → ⊥
prepares_no_fault Rises content file observer R held Next t f =
    compiles_no_fault Rises content file (Some observer) (λ p q o code. Then (ListedStops R held p) (IsListed held p) (λ ss. Next p q o code ss)) t
    (λ p q o code. after p q o code)
  where
    after : (p : Syntax) (q : LabelledProgram) (o : Option Label) (code : Code)
        → Then (ListedStops R held p) (IsListed held p) (λ ss. Next p q o code ss) status.WriteFault t → ⊥
    after p q o code (inl h) = listed_no_fault R held p t h
    after p q o code (inr h) = f p q o code h.0 h.2

-- Stages in their order: where none of them stops, where all give one answer, and that no stop is a write fault.
use Rattle.std.proofs.Common.{◌≡◌, ℕ, List, ◌∷◌, All, Option, Some, None, inl, inr, subst, ◌∙◌, sym}
use Rattle.std.proofs.lemmas.List.Elements.{All-head, All-tail}
use Rattle.std.proofs.lemmas.Option.{none-some}
use Rattle.label_lattice.specs.declared.label.Label.{Label}
use Rattle.mit_syntax.specs.Program.{Syntax}
use Rattle.parse_laws.proofs.Meant.{program_order}
use Rattle.timing_types.specs.Labelled.{LabelledProgram}
use Rattle.label_code.specs.Shaped.{Code}
use Rattle.code_lower.specs.Lowered.{lowered}
use Rattle.start_file.specs.Starts.{StartValue}
use Rattle.label_lattice.specs.Order.{IsOrder}
use Rattle.black_box.proofs.FileLemmas.{one_list}
use Rattle.black_box.specs.Files.{Holds}
use Rattle.tool_texts.specs.declared.status.Status.{Status}
use Rattle.tool_texts.specs.declared.status.Status.TheVariants as status
use Rattle.tool_texts.specs.declared.status.Status.TheVariants.{WriteFault}
use Rattle.tool_stages.specs.Stages.{Then, ProgramStops, Reads, ObserverStops, Observes, TypeStops, Types, ImageStops, HasImage, StartStops, StartsAre}
use Rattle.tool_stages.specs.Stages.{FirstStops, FirstStart, HoldsRuns}
use Rattle.tool_stages.specs.Content.{Content, IsKnown}
use Rattle.tool_stages.specs.Begins.{Compiles, Prepares}
use Rattle.tool_stages.specs.Goes.{IsTypable, CanLower, CanCompile}
use Rattle.tool_stages.proofs.GoesLemmas.{then_goes, then_goes_from, program_goes, observer_goes, typing_goes, image_goes, starts_go, one_told}
use Rattle.tool_stages.proofs.OneLemmas.{one_program, one_list_of_starts, Same, then_one, one_program_stop, one_observer_stop, one_typed, typed_or_not}
use Rattle.tool_stages.proofs.OneLemmas.{one_type_stop, one_image_stop, image_or_not, one_start_stop}
use Rattle.tool_stages.proofs.OneFirst.{one_observer, one_first, first_or_not}

-- ---- the files of a command

module _ (Rises : List ℕ → Type 0) (content : Content) where
  -- a file whose count does not rise, and which is told
  abbrev IsGood : List ℕ → Type 0
  IsGood name = (Rises name → ⊥) × IsKnown (content name)

  abbrev OtherIsGood : Option (List ℕ) → Type 0
  OtherIsGood starts = (name : List ℕ) → starts ≡ Some name → IsGood name

  pub no_other : OtherIsGood None
  no_other name e = absurd (none-some name e)

  pub one_other : (starts : List ℕ) → IsGood starts → OtherIsGood (Some starts)
  one_other starts k name e =
      let same : starts ≡ name = cc in
      subst IsGood same k

  pub first_file : (name : List ℕ) (others : List (List ℕ)) → All (λ name. Rises name → ⊥) (name ∷ others)
      → All (λ name. IsKnown (content name)) (name ∷ others) → IsGood name
  first_file name others n h = (All-head (λ name. Rises name → ⊥) name others n, All-head (λ name. IsKnown (content name)) name others h)

  pub second_file : (first name : List ℕ) (others : List (List ℕ)) → All (λ name. Rises name → ⊥) (first ∷ name ∷ others)
      → All (λ name. IsKnown (content name)) (first ∷ name ∷ others) → IsGood name
  second_file first name others n h =
      first_file name others (All-tail (λ name. Rises name → ⊥) first (name ∷ others) n) (All-tail (λ name. IsKnown (content name)) first (name ∷ others) h)

-- ---- none of them stops

pub lower_goes : (p : Syntax) (Can : LabelledProgram → Type 0) (Next : LabelledProgram → Code → Status → List ℕ → Type 0) (s : Status) (t : List ℕ)
    → CanLower p Can
    → ((q : LabelledProgram) (code : Code) → code ≡ lowered q → Can q → Next q code s t → s ≡ status.Done)
    → Then (TypeStops p) (Types p) (λ q. Then (ImageStops q) (HasImage q) (λ code. Next q code)) s t → s ≡ status.Done
lower_goes p Can Next s t can f h =
    then_goes (TypeStops p) (Types p) (λ q. Then (ImageStops q) (HasImage q) (λ code. Next q code)) s t
    (typing_goes p s t can.0) (λ q typed.
    let short = can.1 q typed in
    then_goes (ImageStops q) (HasImage q) (λ code. Next q code) s t
    (image_goes q s t short.0) (λ code image. f q code image.0 short.1)) h

pub compiles_go : (Rises : List ℕ → Type 0) (content : Content) (file : List ℕ) (observer : Option (List ℕ))
    (Can : Syntax → LabelledProgram → Option Label → Type 0) (Next : Syntax → LabelledProgram → Option Label → Code → Status → List ℕ → Type 0) (s : Status)
    (t : List ℕ)
    → (Rises file → ⊥) → IsKnown (content file) → CanCompile (content file) observer Can
    → ((p : Syntax) (q : LabelledProgram) (o : Option Label) (code : Code) → code ≡ lowered q → Can p q o → Next p q o code s t → s ≡ status.Done)
    → Compiles Rises content file observer Next s t → s ≡ status.Done
compiles_go Rises content file observer Can Next s t n known can f h =
    let p : Syntax = can.0 in
    let o : Option Label = can.2 in
    then_goes_from (ProgramStops (Rises file) (content file)) (Reads (content file))
    (λ p. Then (ObserverStops p.order observer) (Observes p.order observer)
    (λ o. Then (TypeStops p) (Types p) (λ q. Then (ImageStops q) (HasImage q) (λ code. Next p q o code)))) s t
    p can.1 (one_program (content file) known) (program_goes (Rises file) (content file) p s t n known can.1)
    (then_goes_from (ObserverStops p.order observer) (Observes p.order observer)
    (λ o. Then (TypeStops p) (Types p) (λ q. Then (ImageStops q) (HasImage q) (λ code. Next p q o code))) s t
    o can.3 (λ a b. one_observer p.order observer a b (program_order _ p can.1.spelled)) (observer_goes p.order observer o s t can.3)
    (lower_goes p (λ q. Can p q o) (λ q code. Next p q o code) s t can.4 (λ q code. f p q o code))) h

module _ (Rises : List ℕ → Type 0) (content : Content) (s : Status) (t : List ℕ) where
  pub typed_done : (file : List ℕ) (Next : Syntax → LabelledProgram → Status → List ℕ → Type 0) → (Rises file → ⊥) → IsKnown (content file)
      → ((p : Syntax) × Reads (content file) p × IsTypable p)
      → ((p : Syntax) (q : LabelledProgram) → Next p q s t → s ≡ status.Done)
      → Then (ProgramStops (Rises file) (content file)) (Reads (content file)) (λ p. Then (TypeStops p) (Types p) (λ q. Next p q)) s t → s ≡ status.Done
  typed_done file Next n known can f h =
      let p : Syntax = can.0 in
      then_goes_from (ProgramStops (Rises file) (content file)) (Reads (content file)) (λ p. Then (TypeStops p) (Types p) (λ q. Next p q)) s t
      p can.1 (one_program (content file) known) (program_goes (Rises file) (content file) p s t n known can.1)
      (then_goes (TypeStops p) (Types p) (λ q. Next p q) s t (typing_goes p s t can.2) (λ q typed. f p q)) h

  -- the first start that there is, and the rest
  pub first_done : (starts : Option (List ℕ)) (p : Syntax) (Next : StartValue → Status → List ℕ → Type 0) (start : StartValue)
      → ((name : List ℕ) → starts ≡ Some name → (Rises name → ⊥) × IsKnown (content name)) → FirstStart content starts p start
      → (Next start s t → s ≡ status.Done)
      → Then (FirstStops Rises content starts p) (FirstStart content starts p) (λ start. Next start) s t → s ≡ status.Done
  first_done starts p Next start others first =
      then_goes_from (FirstStops Rises content starts p) (FirstStart content starts p) (λ start. Next start) s t start first
      (λ a b. one_first content p starts a b (λ name e. (others name e).1))
      (first_or_not content p Rises starts start s t (λ name e. (others name e).0) (λ name e. (others name e).1) first)

module _ (s : Status) (t : List ℕ) where
  -- the starts that there are, and the rest
  pub starts_done : (Rose : Type 0) (c : Option (Option (List ℕ))) (p : Syntax) (Next : List StartValue → Status → List ℕ → Type 0) (ss : List StartValue)
      → (Rose → ⊥) → IsKnown c → StartsAre c p ss → (Next ss s t → s ≡ status.Done) → Then (StartStops Rose c p) (StartsAre c p) (λ ss. Next ss) s t
      → s ≡ status.Done
  starts_done Rose c p Next ss n known are =
      then_goes_from (StartStops Rose c p) (StartsAre c p) (λ ss. Next ss) s t ss are (one_list_of_starts c known p) (starts_go Rose c p ss s t n known are)

  pub prepared_done : (files : List ℕ → Type 0) (content' : Content) (file observer : List ℕ) (Rose : Type 0) (c : Option (Option (List ℕ)))
      (Can : LabelledProgram → Option Label → List StartValue → Type 0)
      (Next : Syntax → LabelledProgram → Option Label → Code → List StartValue → Status → List ℕ → Type 0)
      → (files file → ⊥) → IsKnown (content' file) → (Rose → ⊥) → IsKnown c
      → CanCompile (content' file) (Some observer) (λ p q o. (ss : List StartValue) × StartsAre c p ss × Can q o ss)
      → ((p : Syntax) (q : LabelledProgram) (o : Option Label) (code : Code) (ss : List StartValue) → Can q o ss → Next p q o code ss s t → s ≡ status.Done)
      → Prepares files content' file observer Rose c Next s t → s ≡ status.Done
  prepared_done files content' file observer Rose c Can Next n known m kept can f h =
      compiles_go files content' file (Some observer) (λ p q o. (ss : List StartValue) × StartsAre c p ss × Can q o ss)
      (λ p q o code. Then (StartStops Rose c p) (StartsAre c p) (λ ss. Next p q o code ss)) s t n known can
      (λ p q o code image goes. starts_done Rose c p (λ ss. Next p q o code ss) goes.0 m kept goes.1 (f p q o code goes.0 goes.2)) h

-- ---- all give one answer

module _ (s u : Status) (t x : List ℕ) where
  pub reads_one : (R : Type 0) (c : Option (Option (List ℕ))) (Next : Syntax → Status → List ℕ → Type 0) → (R → ⊥) → IsKnown c
      → ((p : Syntax) → IsOrder p.order → Next p s t → Next p u x → Same s u t x)
      → Then (ProgramStops R c) (Reads c) (λ p. Next p) s t → Then (ProgramStops R c) (Reads c) (λ p. Next p) u x → Same s u t x
  reads_one R c Next n known next =
      then_one (ProgramStops R c) (Reads c) (λ p. Next p) s u t x (one_program_stop c known R s u t x n)
      (λ p v y r. program_goes R c p v y n known r) (one_program c known)
      (λ p r. next p (program_order _ p r.spelled))

  pub types_one : (p : Syntax) (Next : LabelledProgram → Status → List ℕ → Type 0) → IsOrder p.order
      → ((q : LabelledProgram) → Next q s t → Next q u x → Same s u t x)
      → Then (TypeStops p) (Types p) (λ q. Next q) s t → Then (TypeStops p) (Types p) (λ q. Next q) u x → Same s u t x
  types_one p Next o next =
      then_one (TypeStops p) (Types p) (λ q. Next q) s u t x (one_type_stop p s u t x o) (λ q v y. typed_or_not p q v y)
      (λ a b. one_typed p a b o) (λ q typed. next q)

  pub lower_one : (p : Syntax) (Next : LabelledProgram → Code → Status → List ℕ → Type 0) → IsOrder p.order
      → ((q : LabelledProgram) (code : Code) → Next q code s t → Next q code u x → Same s u t x)
      → Then (TypeStops p) (Types p) (λ q. Then (ImageStops q) (HasImage q) (λ code. Next q code)) s t
      → Then (TypeStops p) (Types p) (λ q. Then (ImageStops q) (HasImage q) (λ code. Next q code)) u x → Same s u t x
  lower_one p Next o next =
      types_one p (λ q. Then (ImageStops q) (HasImage q) (λ code. Next q code)) o (λ q.
      then_one (ImageStops q) (HasImage q) (λ code. Next q code) s u t x (one_image_stop q s u t x) (λ code v y. image_or_not q code v y)
      (λ a b h k. h.0 ∙ sym k.0) (λ code image. next q code))

  pub compiles_one : (Rises : List ℕ → Type 0) (content : Content) (file : List ℕ) (observer : Option (List ℕ))
      (Next : Syntax → LabelledProgram → Option Label → Code → Status → List ℕ → Type 0)
      → (Rises file → ⊥) → IsKnown (content file) → ((p : Syntax) (q : LabelledProgram) (o : Option Label) (code : Code) → Next p q o code s t
      → Next p q o code u x → Same s u t x)
      → Compiles Rises content file observer Next s t → Compiles Rises content file observer Next u x → Same s u t x
  compiles_one Rises content file observer Next n known next =
      reads_one (Rises file) (content file)
      (λ p. Then (ObserverStops p.order observer) (Observes p.order observer)
      (λ o. Then (TypeStops p) (Types p) (λ q. Then (ImageStops q) (HasImage q) (λ code. Next p q o code)))) n known (λ p order.
      then_one (ObserverStops p.order observer) (Observes p.order observer)
      (λ o. Then (TypeStops p) (Types p) (λ q. Then (ImageStops q) (HasImage q) (λ code. Next p q o code))) s u t x
      (one_observer_stop p.order observer s u t x) (λ o v y. observer_goes p.order observer o v y) (λ a b. one_observer p.order observer a b order) (λ o sees.
      lower_one p (λ q code. Next p q o code) order (λ q code. next p q o code)))

  pub prepares_one : (Rises : List ℕ → Type 0) (content : Content) (file observer : List ℕ) (Rose : Type 0) (c : Option (Option (List ℕ)))
      (Next : Syntax → LabelledProgram → Option Label → Code → List StartValue → Status → List ℕ → Type 0)
      → (Rises file → ⊥) → IsKnown (content file) → (Rose → ⊥) → IsKnown c
      → ((p : Syntax) (q : LabelledProgram) (o : Option Label) (code : Code) (ss : List StartValue) → Next p q o code ss s t
      → Next p q o code ss u x → Same s u t x)
      → Prepares Rises content file observer Rose c Next s t → Prepares Rises content file observer Rose c Next u x → Same s u t x
  prepares_one Rises content file observer Rose c Next n known m kept next =
      compiles_one Rises content file (Some observer) (λ p q o code. Then (StartStops Rose c p) (StartsAre c p) (λ ss. Next p q o code ss)) n known
      (λ p q o code.
      then_one (StartStops Rose c p) (StartsAre c p) (λ ss. Next p q o code ss) s u t x (one_start_stop c kept p Rose s u t x m)
      (λ ss v y are. starts_go Rose c p ss v y m kept are)
      (one_list_of_starts c kept p) (λ ss are. next p q o code ss))

  pub one_run_list : (c : Option (Option (List ℕ))) (a b : List (List ℕ)) → IsKnown c → HoldsRuns c a → HoldsRuns c b → a ≡ b
  one_run_list c a b known h k =
      let bytes : h.bytes ≡ k.bytes = one_told c h.bytes k.bytes known h.are k.are in
      let holds : Holds k.bytes a = subst (λ (z : List ℕ). Holds z a) bytes h.holds in
      one_list a b (sym holds ∙ k.holds)

  pub usage_one : {S : Status} {T : List ℕ} → (s ≡ S) × (t ≡ T) → (u ≡ S) × (x ≡ T) → Same s u t x
  usage_one h k = (h.0 ∙ sym k.0, h.1 ∙ sym k.1)

-- ---- no stop is a write fault

pub compiles_no_fault : (Rises : List ℕ → Type 0) (content : Content) (file : List ℕ) (observer : Option (List ℕ))
    (Next : Syntax → LabelledProgram → Option Label → Code → Status → List ℕ → Type 0) (t : List ℕ)
    → ((p : Syntax) (q : LabelledProgram) (o : Option Label) (code : Code) → Next p q o code WriteFault t → ⊥)
    → Compiles Rises content file observer Next WriteFault t → ⊥
compiles_no_fault Rises content file observer Next t f (inl h) = h
compiles_no_fault Rises content file observer Next t f (inr (p, reads, inl h)) = h
compiles_no_fault Rises content file observer Next t f (inr (p, reads, inr (o, sees, inl h))) = h
compiles_no_fault Rises content file observer Next t f (inr (p, reads, inr (o, sees, inr (q, types, inl h)))) = h
compiles_no_fault Rises content file observer Next t f (inr (p, reads, inr (o, sees, inr (q, types, inr (code, image, h))))) = f p q o code h

pub prepares_no_fault : (Rises : List ℕ → Type 0) (content : Content) (file observer : List ℕ) (R : Type 0) (held : Option (Option (List ℕ)))
    (Next : Syntax → LabelledProgram → Option Label → Code → List StartValue → Status → List ℕ → Type 0) (t : List ℕ)
    → ((p : Syntax) (q : LabelledProgram) (o : Option Label) (code : Code) (ss : List StartValue) → Next p q o code ss WriteFault t → ⊥)
    → Prepares Rises content file observer R held Next WriteFault t → ⊥
prepares_no_fault Rises content file observer R held Next t f (inl h) = h
prepares_no_fault Rises content file observer R held Next t f (inr (p, reads, inl h)) = h
prepares_no_fault Rises content file observer R held Next t f (inr (p, reads, inr (o, sees, inl h))) = h
prepares_no_fault Rises content file observer R held Next t f (inr (p, reads, inr (o, sees, inr (q, types, inl h)))) = h
prepares_no_fault Rises content file observer R held Next t f (inr (p, reads, inr (o, sees, inr (q, types, inr (code, image, inl h))))) = h
prepares_no_fault Rises content file observer R held Next t f (inr (p, reads, inr (o, sees, inr (q, types, inr (code, image, inr (ss, are, h)))))) =
    f p q o code ss h

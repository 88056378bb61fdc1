-- Stages with which commands begin have one answer at most, of files that are told and whose counts do not rise.
use Rattle.std.proofs.Common.{◌≡◌, ℕ, List, Option, Some}
use Rattle.label_lattice.specs.declared.label.Label.{Label}
use Rattle.mit_syntax.specs.Program.{Syntax}
use Rattle.timing_types.specs.Labelled.{LabelledProgram}
use Rattle.label_code.specs.Shaped.{Code}
use Rattle.start_file.specs.Starts.{StartValue}
use Rattle.tool_texts.specs.declared.status.Status.{Status}
use Rattle.tool_stages.specs.Stages.{Then, Reads, ProgramStops, Types, TypeStops, FirstStops, FirstStart, HoldsRuns, ReadyStops, CertificateStops, Rechecks}
use Rattle.tool_stages.specs.Content.{Content, IsKnown}
use Rattle.tool_stages.specs.Begins.{Compiles}
use Rattle.tool_stages.proofs.ChainLemmas.{compiles_one, one_run_list, reads_one, types_one}
use Rattle.tool_stages.proofs.OneLemmas.{Same, then_one, then_same, one_ready_stop, runs_or_not, one_certificate_stop}
use Rattle.tool_stages.proofs.GoesLemmas.{certificate_goes}
use Rattle.tool_stages.proofs.OneFirst.{one_first, first_or_not, one_first_stop}

module _ (s u : Status) (t x : List ℕ) (Rises : List ℕ → Type 0) (content : Content) where
  abbrev IsGood : List ℕ → Type 0
  IsGood name = (Rises name → ⊥) × IsKnown (content name)

  abbrev OtherIsGood : Option (List ℕ) → Type 0
  OtherIsGood starts = (name : List ℕ) → starts ≡ Some name → IsGood name

  -- a program with labels
  pub typed_one : (file : List ℕ) (Next : Syntax → LabelledProgram → Status → List ℕ → Type 0) → IsGood file
      → ((p : Syntax) (q : LabelledProgram) → Next p q s t → Next p q u x → Same s u t x)
      → Then (ProgramStops (Rises file) (content file)) (Reads (content file)) (λ p. Then (TypeStops p) (Types p) (λ q. Next p q)) s t
      → Then (ProgramStops (Rises file) (content file)) (Reads (content file)) (λ p. Then (TypeStops p) (Types p) (λ q. Next p q)) u x → Same s u t x
  typed_one file Next good next =
      reads_one s u t x (Rises file) (content file) (λ p. Then (TypeStops p) (Types p) (λ q. Next p q)) good.0 good.1
      (λ p order. types_one s u t x p (λ q. Next p q) order (next p))

  start_one : (starts : Option (List ℕ)) (p : Syntax) (Next : StartValue → Status → List ℕ → Type 0) → OtherIsGood starts
      → ((start : StartValue) → Next start s t → Next start u x → Same s u t x)
      → Then (FirstStops Rises content starts p) (FirstStart content starts p) (λ start. Next start) s t
      → Then (FirstStops Rises content starts p) (FirstStart content starts p) (λ start. Next start) u x → Same s u t x
  start_one starts p Next others next =
      then_one (FirstStops Rises content starts p) (FirstStart content starts p) (λ start. Next start) s u t x
      (one_first_stop content p Rises starts s u t x (λ name e. (others name e).0) (λ name e. (others name e).1))
      (λ start v y. first_or_not content p Rises starts start v y (λ name e. (others name e).0) (λ name e. (others name e).1))
      (λ a b. one_first content p starts a b (λ name e. (others name e).1)) (λ start first. next start)

  -- an image with a first start
  pub first_one : (file : List ℕ) (starts observer : Option (List ℕ))
      (Next : Syntax → LabelledProgram → Option Label → Code → StartValue → Status → List ℕ → Type 0) → IsGood file → OtherIsGood starts
      → ((p : Syntax) (q : LabelledProgram) (o : Option Label) (code : Code) (start : StartValue) → Next p q o code start s t → Next p q o code start u x
      → Same s u t x)
      → Compiles Rises content file observer
      (λ p q o code. Then (FirstStops Rises content starts p) (FirstStart content starts p) (λ start. Next p q o code start)) s t
      → Compiles Rises content file observer
      (λ p q o code. Then (FirstStops Rises content starts p) (FirstStart content starts p) (λ start. Next p q o code start)) u x → Same s u t x
  first_one file starts observer Next good others next =
      compiles_one s u t x Rises content file observer
      (λ p q o code. Then (FirstStops Rises content starts p) (FirstStart content starts p) (λ start. Next p q o code start)) good.0 good.1
      (λ p q o code. start_one starts p (λ start. Next p q o code start) others (next p q o code))

  -- a program with a first start
  pub meant_one : (file : List ℕ) (starts : Option (List ℕ)) (Next : Syntax → StartValue → Status → List ℕ → Type 0) → IsGood file → OtherIsGood starts
      → ((p : Syntax) (start : StartValue) → Next p start s t → Next p start u x → Same s u t x)
      → Then (ProgramStops (Rises file) (content file)) (Reads (content file))
      (λ p. Then (FirstStops Rises content starts p) (FirstStart content starts p) (λ start. Next p start)) s t
      → Then (ProgramStops (Rises file) (content file)) (Reads (content file))
      (λ p. Then (FirstStops Rises content starts p) (FirstStart content starts p) (λ start. Next p start)) u x → Same s u t x
  meant_one file starts Next good others next =
      reads_one s u t x (Rises file) (content file)
      (λ p. Then (FirstStops Rises content starts p) (FirstStart content starts p) (λ start. Next p start)) good.0 good.1
      (λ p order. start_one starts p (λ start. Next p start) others (next p))

  -- a file of ready cycles
  pub ready_one : (file : List ℕ) (Next : List (List ℕ) → Status → List ℕ → Type 0) → IsGood file
      → ((runs : List (List ℕ)) → Next runs s t → Next runs u x → Same s u t x)
      → Then (ReadyStops (Rises file) (content file)) (HoldsRuns (content file)) (λ runs. Next runs) s t
      → Then (ReadyStops (Rises file) (content file)) (HoldsRuns (content file)) (λ runs. Next runs) u x → Same s u t x
  ready_one file Next good next =
      then_one (ReadyStops (Rises file) (content file)) (HoldsRuns (content file)) (λ runs. Next runs) s u t x
      (one_ready_stop (content file) good.1 (Rises file) s u t x good.0)
      (λ runs v y holds. runs_or_not (content file) good.1 runs (Rises file) v y good.0 holds)
      (λ a b. one_run_list s u t x (content file) a b good.1) (λ runs holds. next runs)

  -- a program with the certificate of a second file
  pub certified_one : (file certificate : List ℕ) (Next : Syntax → Status → List ℕ → Type 0) → IsGood file → IsGood certificate
      → ((p : Syntax) → Next p s t → Next p u x → Same s u t x)
      → Then (ProgramStops (Rises file) (content file)) (Reads (content file))
      (λ p. Then (CertificateStops (Rises certificate) (content certificate) p) (Rechecks (content certificate) p) (λ q. Next p)) s t
      → Then (ProgramStops (Rises file) (content file)) (Reads (content file))
      (λ p. Then (CertificateStops (Rises certificate) (content certificate) p) (Rechecks (content certificate) p) (λ q. Next p)) u x → Same s u t x
  certified_one file certificate Next good other next =
      reads_one s u t x (Rises file) (content file)
      (λ p. Then (CertificateStops (Rises certificate) (content certificate) p) (Rechecks (content certificate) p) (λ q. Next p)) good.0 good.1
      (λ p order.
      then_same (CertificateStops (Rises certificate) (content certificate) p) (Rechecks (content certificate) p) (Next p) s u t x
      (one_certificate_stop (content certificate) other.1 p (Rises certificate) s u t x other.0)
      (λ q v y r. certificate_goes (Rises certificate) (content certificate) p q v y other.0 other.1 r.holds) (next p))

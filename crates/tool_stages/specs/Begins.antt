-- What commands begin with: the stages in their order, what stops them, and what they leave to the rest of a command.
use Rattle.std.specs.Prelude.{◌≡◌, ◌<◌, ◌≤◌, ℕ, List, All, length, Option, Some}
use Rattle.label_lattice.specs.Order.{Order}
use Rattle.label_lattice.specs.declared.label.Label.{Label}
use Rattle.mit_syntax.specs.Program.{Syntax}
use Rattle.timing_types.specs.Labelled.{LabelledProgram}
use Rattle.label_code.specs.Shaped.{Code}
use Rattle.code_lower.specs.Lowered.{lowered}
use Rattle.start_file.specs.Starts.{StartValue, IsFor}
use Rattle.tool_texts.specs.declared.status.Status.{Status}
use Rattle.tool_stages.specs.Stages.{Then, Reads, ProgramStops, Observes, ObserverStops, Types, TypeStops, HasImage, ImageStops, StartsAre, StartStops}
use Rattle.tool_stages.specs.Stages.{FirstStart, FirstStops}
use Rattle.tool_stages.specs.Content.{Content}

-- how a call stops where an observer's name is no label's
abbrev pub StopsForName : Type 1
StopsForName = Order → Option (List ℕ) → Status → List ℕ → Type 0

-- From a file to an image, and an observer's name to a label, or a stop for that; then the rest goes on.
abbrev pub CompilesBy : StopsForName → (List ℕ → Type 0) → Content → List ℕ → Option (List ℕ)
    → (Syntax → LabelledProgram → Option Label → Code → Status → List ℕ → Type 0) → Status → List ℕ → Type 0
CompilesBy Unnamed Rises content file observer Next =
    Then (ProgramStops (Rises file) (content file)) (Reads (content file)) (λ p.
    Then (Unnamed p.order observer) (Observes p.order observer) (λ o.
    Then (TypeStops p) (Types p) (λ q.
    Then (ImageStops q) (HasImage q) (λ code.
    Next p q o code))))

-- the same where the tool's usage text is told of such a name
abbrev pub Compiles : (List ℕ → Type 0) → Content → List ℕ → Option (List ℕ)
    → (Syntax → LabelledProgram → Option Label → Code → Status → List ℕ → Type 0) → Status → List ℕ → Type 0
Compiles = CompilesBy ObserverStops

-- From a file, an observer's name and what a start file is told to hold to an image and starts.
abbrev pub PreparesBy : StopsForName → (List ℕ → Type 0) → Content → List ℕ → List ℕ → Type 0 → Option (Option (List ℕ))
    → (Syntax → LabelledProgram → Option Label → Code → List StartValue → Status → List ℕ → Type 0) → Status → List ℕ → Type 0
PreparesBy Unnamed Rises content file observer Rose starts Next =
    CompilesBy Unnamed Rises content file (Some observer) (λ p q o code.
    Then (StartStops Rose starts p) (StartsAre starts p) (λ ss.
    Next p q o code ss))

abbrev pub Prepares : (List ℕ → Type 0) → Content → List ℕ → List ℕ → Type 0 → Option (Option (List ℕ))
    → (Syntax → LabelledProgram → Option Label → Code → List StartValue → Status → List ℕ → Type 0) → Status → List ℕ → Type 0
Prepares = PreparesBy ObserverStops

-- ---- what stages leave to the rest of a command

-- a program with labels that type it and its image, and the label that an observer's name names
pub record IsCompiled (p : Syntax) (observer : Option (List ℕ)) (q : LabelledProgram) (o : Option Label) (code : Code) : Type 0 where
  pub observes : Observes p.order observer o
  pub types : Types p q
  pub image : HasImage q code

-- an accepted program of a file with its image, and the label that an observer's name names
pub record HasCompiled (content : Content) (file : List ℕ) (observer : Option (List ℕ)) (q : LabelledProgram) (o : Option Label) (code : Code) : Type 0 where
  pub program : Syntax
  pub reads : Reads (content file) program
  pub observes : Observes program.order observer o
  pub types : Types program q
  pub image : HasImage q code

-- the same with the first start
pub record IsReady (content : Content) (file : List ℕ) (starts observer : Option (List ℕ)) (q : LabelledProgram) (o : Option Label)
    (code : Code) (start : StartValue) : Type 0 where
  pub compiled : HasCompiled content file observer q o code
  pub first : FirstStart content starts q.program start

-- a program of a file with a first start
pub record HasSource (content : Content) (file : List ℕ) (starts : Option (List ℕ)) (p : Syntax) (start : StartValue) : Type 0 where
  pub reads : Reads (content file) p
  pub first : FirstStart content starts p start

-- what an audit begins with: an image, the label that is observed, and all starts
pub record IsPrepared (content : Content) (file observer : List ℕ) (held : Option (Option (List ℕ))) (q : LabelledProgram)
    (l : Label) (code : Code) (ss : List StartValue) : Type 0 where
  pub compiled : HasCompiled content file (Some observer) q (Some l) code
  pub starts : StartsAre held q.program ss

-- and what an audit asks of it
pub record CanAudit (q : LabelledProgram) (l : Label) (code : Code) (ss : List StartValue) : Type 0 where
  pub image : code ≡ lowered q
  pub observer : l.number < q.program.order.size
  pub some : 0 < length ss
  pub few : length ss ≤ 4096
  pub starts : All (IsFor q.program) ss

-- ---- what stops a command before that

-- nothing else stops
abbrev pub NoMore : Status → List ℕ → Type 0
NoMore s t = ⊥

-- why a program is not accepted
abbrev pub CheckStops : (List ℕ → Type 0) → Content → List ℕ → Status → List ℕ → Type 0
CheckStops Rises content file =
    Then (ProgramStops (Rises file) (content file)) (Reads (content file)) (λ p.
    Then (TypeStops p) (Types p) (λ q. NoMore))

-- why a program has no image
abbrev pub ProgramCompileStops : Syntax → Option (List ℕ) → Status → List ℕ → Type 0
ProgramCompileStops p observer =
    Then (ObserverStops p.order observer) (Observes p.order observer) (λ o.
    Then (TypeStops p) (Types p) (λ q.
    Then (ImageStops q) (HasImage q) (λ code. NoMore)))

-- why there is no image
abbrev pub CompileStops : (List ℕ → Type 0) → Content → List ℕ → Option (List ℕ) → Status → List ℕ → Type 0
CompileStops Rises content file observer = Compiles Rises content file observer (λ p q o code. NoMore)

-- why there is no run
abbrev pub RunStops : (List ℕ → Type 0) → Content → List ℕ → Option (List ℕ) → Option (List ℕ) → Status → List ℕ → Type 0
RunStops Rises content file starts observer =
    Compiles Rises content file observer (λ p q o code.
    Then (FirstStops Rises content starts p) (FirstStart content starts p) (λ start. NoMore))

-- why there is no run without its time
abbrev pub MeaningStops : (List ℕ → Type 0) → Content → List ℕ → Option (List ℕ) → Status → List ℕ → Type 0
MeaningStops Rises content file starts =
    Then (ProgramStops (Rises file) (content file)) (Reads (content file)) (λ p.
    Then (FirstStops Rises content starts p) (FirstStart content starts p) (λ start. NoMore))

-- why there is no audit
abbrev pub PrepareStops : (List ℕ → Type 0) → Content → List ℕ → List ℕ → Type 0 → Option (Option (List ℕ)) → Status → List ℕ → Type 0
PrepareStops Rises content file observer Rose starts =
    Prepares Rises content file observer Rose starts (λ p q o code ss. NoMore)

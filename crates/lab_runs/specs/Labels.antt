-- What is told of a word that should name a label and names none, and what begins with such words.
use Rattle.std.specs.Prelude.{◌≡◌, ℕ, List, ◌++◌, Option, Some, codes}
use Rattle.label_lattice.specs.Order.{Order}
use Rattle.label_lattice.specs.declared.label.Label.{Label}
use Rattle.mit_syntax.specs.Program.{Syntax}
use Rattle.timing_types.specs.Labelled.{LabelledProgram}
use Rattle.label_code.specs.Shaped.{Code}
use Rattle.start_file.specs.Starts.{StartValue}
use Rattle.tool_texts.specs.declared.status.Status.{Status}
use Rattle.tool_texts.specs.declared.status.Status.TheVariants as status
use Rattle.tool_stages.specs.Stages.{Then, IsUnknown, Observes, Types, TypeStops, HasImage, ImageStops}
use Rattle.tool_stages.specs.Begins.{StopsForName, CompilesBy, HasCompiled, NoMore}
use Rattle.tool_stages.specs.Content.{Content}
use Rattle.space_stage.specs.Listed.{IsListed, ListedStops}
use Rattle.lab_texts.specs.Names.{after_blanks}

-- the lines on an option whose word is the name of no label: the labels that there are
abbrev pub no_label_text : List ℕ → Order → List ℕ
no_label_text option o = option ++ (codes ": unknown name\nlabels" ++ (after_blanks o.names ++ codes "\n"))

-- how a question stops for such a word
abbrev pub UnnamedStops : List ℕ → StopsForName
UnnamedStops option o w status.Usage t = IsUnknown o w × (t ≡ no_label_text option o)
UnnamedStops option o w _ t = ⊥

abbrev pub observer_option : List ℕ
observer_option = codes "observer"

-- From a file to an image, and an observer's name to a label; then the rest of a question goes on.
abbrev pub NamesAndCompiles : (List ℕ → Type 0) → Content → List ℕ → Option (List ℕ)
    → (Syntax → LabelledProgram → Option Label → Code → Status → List ℕ → Type 0) → Status → List ℕ → Type 0
NamesAndCompiles = CompilesBy (UnnamedStops observer_option)

-- The same with what a start file is told to hold: a list of starts, or a space whose starts are written out.
abbrev pub NamesAndPrepares : (List ℕ → Type 0) → Content → List ℕ → List ℕ → Type 0 → Option (Option (List ℕ))
    → (Syntax → LabelledProgram → Option Label → Code → List StartValue → Status → List ℕ → Type 0) → Status → List ℕ → Type 0
NamesAndPrepares Rises content file observer Rose starts Next =
    NamesAndCompiles Rises content file (Some observer) (λ p q o code.
    Then (ListedStops Rose starts p) (IsListed starts p) (λ ss.
    Next p q o code ss))

-- what they leave to the rest: an image, the label that is observed, and starts
pub record HasPrepared (content : Content) (file observer : List ℕ) (held : Option (Option (List ℕ))) (q : LabelledProgram)
    (l : Label) (code : Code) (ss : List StartValue) : Type 0 where
  pub compiled : HasCompiled content file (Some observer) q (Some l) code
  pub starts : IsListed held q.program ss

-- ---- what stops a question before that

abbrev pub NamedProgramStops : Syntax → Option (List ℕ) → Status → List ℕ → Type 0
NamedProgramStops p observer =
    Then (UnnamedStops observer_option p.order observer) (Observes p.order observer) (λ o.
    Then (TypeStops p) (Types p) (λ q.
    Then (ImageStops q) (HasImage q) (λ code. NoMore)))

abbrev pub NamedCompileStops : (List ℕ → Type 0) → Content → List ℕ → Option (List ℕ) → Status → List ℕ → Type 0
NamedCompileStops Rises content file observer = NamesAndCompiles Rises content file observer (λ p q o code. NoMore)

abbrev pub NamedPrepareStops : (List ℕ → Type 0) → Content → List ℕ → List ℕ → Type 0 → Option (Option (List ℕ)) → Status → List ℕ → Type 0
NamedPrepareStops Rises content file observer Rose starts =
    NamesAndPrepares Rises content file observer Rose starts (λ p q o code ss. NoMore)

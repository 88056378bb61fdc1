-- What runs of the program of a file: an accepted one, or a refused one where such are asked for.
use Rattle.std.specs.Prelude.{◌≡◌, ◌⊎◌, ◌≤◌, ◌-◌, ℕ, List, [], ◌++◌, length, take, Bool, true, false, Option, codes}
use Rattle.std.specs.Bool.{⊤}
use Rattle.label_lattice.specs.declared.label.Label.{Label}
use Rattle.mit_syntax.specs.Program.{Syntax}
use Rattle.timing_types.specs.Labelled.{LabelledProgram}
use Rattle.label_infer.specs.Least.{IsLeast}
use Rattle.label_code.specs.Shaped.{Code}
use Rattle.code_lower.specs.Lowered.{lowered}
use Rattle.start_file.specs.Starts.{StartValue}
use Rattle.tool_texts.specs.declared.status.Status.{Status}
use Rattle.tool_texts.specs.declared.status.Status.TheVariants as status
use Rattle.tool_stages.specs.Stages.{Then, Reads, ProgramStops, Observes, Types, HasNoType, TypeStops}
use Rattle.tool_stages.specs.Stages.{HasImage, ImageStops}
use Rattle.tool_stages.specs.Content.{Content, IsKnown}
use Rattle.tool_stages.specs.Begins.{NoMore}
use Rattle.tool_stages.specs.Goes.{IsTypable}
use Rattle.space_stage.specs.Listed.{IsListed, ListedStops}
use Rattle.lab_runs.specs.Labels.{UnnamedStops, observer_option}

-- what is said of a text, by a program, the observer that is named, an image, and starts
abbrev pub OfRuns : Type 1
OfRuns = LabelledProgram → Option Label → Code → List StartValue → List ℕ → Type 0

-- a labelled program, and what is told before its runs
pub record Shown : Type 0 where
  pub labelled : LabelledProgram
  pub head : List ℕ

-- the line before the runs of a refused program: that of its refusal, with more words before the line's end
abbrev pub head_line : List ℕ → List ℕ
head_line refusal = take (length refusal - 1) refusal ++ codes "; it runs by its least labels, and no bound holds\n"

-- an accepted program, before whose runs nothing is told
pub record RunsAccepted (p : Syntax) (x : Shown) : Type 0 where
  pub types : Types p x.labelled
  pub head : x.head ≡ []

-- a refused one, which runs by its least labels
pub record RunsRefused (p : Syntax) (x : Shown) : Type 0 where
  pub program : x.labelled.program ≡ p
  pub least : IsLeast p x.labelled.labels
  pub refusal : List ℕ
  pub refused : HasNoType p refusal
  pub head : x.head ≡ head_line refusal

-- what runs of a program, where refused ones are asked for and where not
abbrev pub Shows : Bool → Syntax → Shown → Type 0
Shows false p x = RunsAccepted p x
Shows true p x = RunsAccepted p x ⊎ RunsRefused p x

-- why nothing does
abbrev pub ShowStops : Bool → Syntax → Status → List ℕ → Type 0
ShowStops false p = TypeStops p
ShowStops true p = NoMore

-- From a program and an observer's name to what runs, and its image; then the rest goes on.
abbrev pub ShowsOf : Bool → Syntax → Option (List ℕ) → (Shown → Option Label → Code → Status → List ℕ → Type 0) → Status → List ℕ → Type 0
ShowsOf refused p observer Next =
    Then (UnnamedStops observer_option p.order observer) (Observes p.order observer) (λ o.
    Then (ShowStops refused p) (Shows refused p) (λ x.
    Then (ImageStops x.labelled) (HasImage x.labelled) (λ code.
    Next x o code)))

-- The same from a file.
abbrev pub ShowsFrom : Bool → (List ℕ → Type 0) → Content → List ℕ → Option (List ℕ)
    → (Syntax → Shown → Option Label → Code → Status → List ℕ → Type 0) → Status → List ℕ → Type 0
ShowsFrom refused Rises content file observer Next =
    Then (ProgramStops (Rises file) (content file)) (Reads (content file)) (λ p.
    ShowsOf refused p observer (Next p))

-- A file gives what runs, an observer's name a label and another file starts; then what stands before the runs is told,
-- and the text of the runs.
abbrev pub ShowsRuns : Bool → (List ℕ → Type 0) → Content → List ℕ → List ℕ → Option (List ℕ) → OfRuns → Status → List ℕ → Type 0
ShowsRuns refused Rises content file starts observer IsText =
    ShowsFrom refused Rises content file observer (λ p x o code.
    Then (ListedStops (Rises starts) (content starts) p) (IsListed (content starts) p) (λ ss s t.
    (s ≡ status.Done) × (u : List ℕ) × IsText x.labelled o code ss u × (t ≡ x.head ++ u)))

-- ---- what stages leave to the rest of a command

-- what runs of a program with its image, and the label that an observer's name names
pub record IsShown (refused : Bool) (p : Syntax) (observer : Option (List ℕ)) (x : Shown) (o : Option Label) (code : Code) : Type 0 where
  pub observes : Observes p.order observer o
  pub shows : Shows refused p x
  pub image : HasImage x.labelled code

-- the same of the program of a file
pub record HasShown (refused : Bool) (content : Content) (file : List ℕ) (observer : Option (List ℕ)) (x : Shown) (o : Option Label)
    (code : Code) : Type 0 where
  pub program : Syntax
  pub reads : Reads (content file) program
  pub shown : IsShown refused program observer x o code

-- and with starts
pub record HasRuns (refused : Bool) (content : Content) (file starts : List ℕ) (observer : Option (List ℕ)) (x : Shown) (o : Option Label)
    (code : Code) (ss : List StartValue) : Type 0 where
  pub has : HasShown refused content file observer x o code
  pub given : IsListed (content starts) has.program ss

-- ---- what stops a command before that

abbrev pub ProgramShowStops : Bool → Syntax → Option (List ℕ) → Status → List ℕ → Type 0
ProgramShowStops refused p observer = ShowsOf refused p observer (λ x o code. NoMore)

abbrev pub FileShowStops : Bool → (List ℕ → Type 0) → Content → List ℕ → Option (List ℕ) → Status → List ℕ → Type 0
FileShowStops refused Rises content file observer = ShowsFrom refused Rises content file observer (λ p x o code. NoMore)

abbrev pub RunsStop : Bool → (List ℕ → Type 0) → Content → List ℕ → List ℕ → Option (List ℕ) → Status → List ℕ → Type 0
RunsStop refused Rises content file starts observer =
    ShowsFrom refused Rises content file observer (λ p x o code.
    Then (ListedStops (Rises starts) (content starts) p) (IsListed (content starts) p) (λ ss. NoMore))

-- ---- how a command can end

-- What may stand before the line for memory: nothing, what stands before the runs, or that and what is told of the first few.
pub record HasTold (refused : Bool) (content : Content) (file starts : List ℕ) (observer : Option (List ℕ)) (IsText : OfRuns) (t : List ℕ) : Type 0 where
  pub shown : Shown
  pub observed : Option Label
  pub code : Code
  pub all : List StartValue
  pub has : HasRuns refused content file starts observer shown observed code all
  pub runs : ℕ
  pub text : List ℕ
  pub told : IsText shown.labelled observed code (take runs all) text
  pub is : t ≡ shown.head ++ text

abbrev pub ShowsBefore : Bool → Content → List ℕ → List ℕ → Option (List ℕ) → OfRuns → List ℕ → Type 0
ShowsBefore refused content file starts observer IsText t = (t ≡ []) ⊎ HasTold refused content file starts observer IsText t

-- where refused programs are asked for each program runs, and else each that some labelling types
abbrev pub RunsAs : Bool → Syntax → Type 0
RunsAs false p = IsTypable p
RunsAs true p = ⊤

-- Nothing but want of memory stops the command: the files are told, and spell a program that runs and has an image, a
-- label where an observer is named, and starts.
pub record CanShow (refused : Bool) (content : Content) (file starts : List ℕ) (observer : Option (List ℕ)) : Type 0 where
  pub known : IsKnown (content file)
  pub known_starts : IsKnown (content starts)
  pub program : Syntax
  pub reads : Reads (content file) program
  pub observed : Option Label
  pub observes : Observes program.order observer observed
  pub runs : RunsAs refused program
  pub short : (x : Shown) → Shows refused program x → length (lowered x.labelled).instrs ≤ 200000
  pub all : List StartValue
  pub given : IsListed (content starts) program all

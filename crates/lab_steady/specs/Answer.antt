-- The answer to `steady`: its status and its text, from what the file is told to hold.
use Rattle.std.specs.Prelude.{◌≡◌, ◌<◌, ℕ, List, Bool, Option, Some, None, codes}
use Rattle.label_lattice.specs.declared.label.Label.{Label}
use Rattle.label_lattice.specs.Order.{Order, name_of}
use Rattle.mit_syntax.specs.declared.token.Token.{Token}
use Rattle.mit_syntax.specs.Cut.{AreTokens}
use Rattle.mit_syntax.specs.Program.{Syntax}
use Rattle.timing_types.specs.Labelled.{LabelledProgram}
use Rattle.label_infer.specs.Least.{IsLeast}
use Rattle.steady_code.specs.declared.fault.Fault.{Fault}
use Rattle.steady_code.specs.declared.costing.Costing.{Costing}
use Rattle.tool_texts.specs.declared.status.Status.{Status}
use Rattle.tool_texts.specs.declared.status.Status.TheVariants as status
use Rattle.tool_stages.specs.Content.{Content}
use Rattle.tool_stages.specs.Stages.{Then, Reads, ProgramStops, HasImage, ImageStops}
use Rattle.lab_runs.specs.Labels.{UnnamedStops, observer_option}
use Rattle.lab_steady.specs.Constant.{costing_of, CostingStops}
use Rattle.lab_steady.specs.Judged.{IsJudged, told, top_of}
use Rattle.lab_steady.specs.Text.{yes_text}
use Rattle.lab_steady.specs.Why.{TellsNo}

-- the label has the name
abbrev pub Names : Order → List ℕ → Label → Type 0
Names order w l = (l.number < order.size) × (name_of order l.number ≡ w)

-- the program with its least labelling, which need not type it
pub record Infers (p : Syntax) (q : LabelledProgram) : Type 0 where
  pub program : q.program ≡ p
  pub least : IsLeast p q.labels

-- a yes of a labelled program: no instruction of its image has a fault
abbrev pub IsYes : Costing → LabelledProgram → ℕ → ℕ → Bool → List ℕ → Type 0
IsYes costing q o h whole t = IsJudged costing q o h whole None × (t ≡ yes_text costing q o h whole)

-- A no: the first fault, and the first one though environments agree in all. One of the two is told, with the tokens of the
-- program's text.
pub record IsNo (costing : Costing) (text : List ℕ) (q : LabelledProgram) (o h : ℕ) (whole : Bool) (t : List ℕ) : Type 0 where
  pub first : Fault
  pub is_first : IsJudged costing q o h whole (Some first)
  pub plain : Option Fault
  pub is_plain : IsJudged costing q o (top_of q.program.order) whole plain
  pub tokens : List Token
  pub cut : AreTokens text tokens
  pub tells : TellsNo costing text tokens q o h (told q first plain) t

abbrev pub IsAnswered : Costing → List ℕ → LabelledProgram → ℕ → ℕ → Bool → Status → List ℕ → Type 0
IsAnswered costing text q o h whole status.Done t = IsYes costing q o h whole t
IsAnswered costing text q o h whole status.Refused t = IsNo costing text q o h whole t
IsAnswered costing text q o h whole _ t = ⊥

abbrev pub parts_option : List ℕ
parts_option = codes "parts"

-- What is told of a program that a text spells, in the order of its refusals: for the observer with a name, where
-- environments agree in what they keep for labels that flow to the label with another name, by these costs of operators.
abbrev pub OfProgram : Costing → List ℕ → Syntax → List ℕ → List ℕ → Bool → Status → List ℕ → Type 0
OfProgram costing text p observer parts whole =
    Then (UnnamedStops observer_option p.order (Some observer)) (Names p.order observer) (λ o.
    Then (UnnamedStops parts_option p.order (Some parts)) (Names p.order parts) (λ h s t.
    (q : LabelledProgram) × Infers p q × Then (ImageStops q) (HasImage q) (λ code. IsAnswered costing text q o.number h.number whole) s t))

-- and of that of a file; `Rises` tells the names whose counts of faults rose
abbrev pub Steadies : Costing → (List ℕ → Type 0) → Content → List ℕ → List ℕ → List ℕ → Bool → Status → List ℕ → Type 0
Steadies costing Rises content file observer parts whole =
    Then (ProgramStops (Rises file) (content file)) (Reads (content file)) (λ p s t.
    (source : Reads (content file) p) × OfProgram costing source.bytes p observer parts whole s t)

-- without `--parts` environments agree below the observer
abbrev pub parts_or : Option (List ℕ) → List ℕ → List ℕ
parts_or None observer = observer
parts_or (Some parts) observer = parts

-- and by the costs of operators for which a word asks
abbrev pub SteadiesBy : Option (List ℕ) → (List ℕ → Type 0) → Content → List ℕ → List ℕ → List ℕ → Bool → Status → List ℕ → Type 0
SteadiesBy constant Rises content file observer parts whole =
    Then (CostingStops constant) (λ costing. costing_of constant ≡ Some costing) (λ costing. Steadies costing Rises content file observer parts whole)

-- the answer of `steady`
abbrev pub IsSteadyAnswer : Option (List ℕ) → (List ℕ → Type 0) → Content → List ℕ → List ℕ → Option (List ℕ) → Bool → Status → List ℕ → Type 0
IsSteadyAnswer constant Rises content file observer parts whole =
    SteadiesBy constant Rises content file observer (parts_or parts observer) whole

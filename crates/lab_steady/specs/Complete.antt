-- How `steady` can end, and that it has one answer.
use Rattle.std.specs.Prelude.{◌≡◌, ◌≤◌, ℕ, List, Bool, length, Option, Some, None}
use Rattle.tim_base.specs.Faults.{Rose}
use Rattle.label_lattice.specs.declared.label.Label.{Label}
use Rattle.mit_syntax.specs.Program.{Syntax}
use Rattle.timing_types.specs.Labelled.{LabelledProgram}
use Rattle.code_lower.specs.Lowered.{lowered}
use Rattle.steady_code.specs.declared.costing.Costing.{Costing}
use Rattle.tool_texts.specs.declared.status.Status.{Status}
use Rattle.tool_texts.specs.declared.status.Status.TheVariants as status
use Rattle.tool_stages.specs.Content.{Content, IsKnown}
use Rattle.tool_stages.specs.Stages.{Reads}
use Rattle.lab_steady.specs.Constant.{costing_of}
use Rattle.lab_steady.specs.Judged.{IsJudged}
use Rattle.lab_steady.specs.Answer.{Infers, Names, IsSteadyAnswer}

-- The file's text spells a program whose image is not too long, and both names are those of labels.
pub record CanJudge (content : Option (Option (List ℕ))) (observer parts : List ℕ) : Type 0 where
  pub program : Syntax
  pub reads : Reads content program
  pub o : Label
  pub names_observer : Names program.order observer o
  pub h : Label
  pub names_parts : Names program.order parts h
  pub labelled : LabelledProgram
  pub infers : Infers program labelled
  pub short : length (lowered labelled).instrs ≤ 200000

-- `steady` is done where no instruction has a fault, and refuses where one has
abbrev pub SteadyGoes : Option (List ℕ) → Option (Option (List ℕ)) → List ℕ → List ℕ → Bool → Status → Type 0
SteadyGoes constant content observer parts whole status.Done =
    (costing : Costing) × (costing_of constant ≡ Some costing)
    × (can : CanJudge content observer parts) × IsJudged costing can.labelled can.o.number can.h.number whole None
SteadyGoes constant content observer parts whole status.Refused =
    (costing : Costing) × (costing_of constant ≡ Some costing)
    × (can : CanJudge content observer parts) × (IsJudged costing can.labelled can.o.number can.h.number whole None → ⊥)
SteadyGoes constant content observer parts whole _ = ⊥

-- Where the file is told to hold bytes, and its count of faults did not rise, two answers are one: they have the same
-- status and the same text.
abbrev pub HasOneSteady : Type 0
HasOneSteady =
    (constant : Option (List ℕ)) (content : Content) (before now : List ℕ → ℕ) (file observer : List ℕ) (parts : Option (List ℕ)) (whole : Bool) (s u : Status)
    (t x : List ℕ) →
    IsKnown (content file) → (Rose (before file) (now file) → ⊥) →
    IsSteadyAnswer constant (λ name. Rose (before name) (now name)) content file observer parts whole s t
    → IsSteadyAnswer constant (λ name. Rose (before name) (now name)) content file observer parts whole u x →
    (s ≡ u) × (t ≡ x)

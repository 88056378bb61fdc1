-- When `leak` can be done, and that it has one answer.
use Rattle.std.specs.Prelude.{◌≡◌, ◌≤◌, ℕ, List, Bool, Option, Some, length}
use Rattle.tim_base.specs.Faults.{Rose}
use Rattle.label_lattice.specs.declared.label.Label.{Label}
use Rattle.mit_syntax.specs.Program.{Syntax}
use Rattle.code_lower.specs.Lowered.{lowered}
use Rattle.start_file.specs.Starts.{StartValue}
use Rattle.tool_stages.specs.declared.envs.Environment.{Environment}
use Rattle.tool_texts.specs.declared.status.Status.{Status}
use Rattle.tool_stages.specs.Content.{Content, IsKnown}
use Rattle.tool_stages.specs.Goes.{CanBeAudited, OfObserver}
use Rattle.tool_stages.specs.Stages.{Reads, Observes}
use Rattle.space_stage.specs.Given.{ListIs}
use Rattle.lab_runs.specs.Shown.{Shown, Shows, RunsAs}
use Rattle.lab_leak.specs.Answer.{IsLeakAnswer}

-- Nothing but want of memory stops the command: both files are told to hold bytes, and spell a program that runs and has an
-- image, a label, and starts from which what runs can be audited.
pub record CanLeak (refused : Bool) (content : Content) (file starts observer : List ℕ) (e : Environment) (t : ℕ) : Type 0 where
  pub known : IsKnown (content file)
  pub known_starts : IsKnown (content starts)
  pub program : Syntax
  pub reads : Reads (content file) program
  pub observed : Option Label
  pub observes : Observes program.order (Some observer) observed
  pub runs : RunsAs refused program
  pub short : (x : Shown) → Shows refused program x → length (lowered x.labelled).instrs ≤ 200000
  pub audited : (x : Shown) → Shows refused program x → (ss : List StartValue) × ListIs (content starts) program ss
      × OfObserver (λ l. CanBeAudited e t x.labelled l ss) observed

-- Where both files are told to hold bytes, and neither count of faults rose, two answers are one: they have the same
-- status and the same text.
abbrev pub HasOneLeak : Type 0
HasOneLeak =
    (content : Content) (before now : List ℕ → ℕ) (file starts observer : List ℕ) (e : Environment) (t : ℕ) (refused : Bool) (s u : Status)
    (x y : List ℕ) →
    IsKnown (content file) → IsKnown (content starts) → (Rose (before file) (now file) → ⊥) → (Rose (before starts) (now starts) → ⊥) →
    IsLeakAnswer (λ name. Rose (before name) (now name)) content file starts observer e t refused s x
    → IsLeakAnswer (λ name. Rose (before name) (now name)) content file starts observer e t refused u y →
    (s ≡ u) × (x ≡ y)

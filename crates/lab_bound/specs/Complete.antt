-- When `bound` can be done, and that it has one answer.
use Rattle.std.specs.Prelude.{◌≡◌, ℕ, List, Some}
use Rattle.tim_base.specs.Faults.{Rose}
use Rattle.start_file.specs.Starts.{StartValue}
use Rattle.tool_stages.specs.declared.envs.Environment.{Environment}
use Rattle.tool_texts.specs.declared.status.Status.{Status}
use Rattle.tool_stages.specs.Content.{Content, IsKnown}
use Rattle.space_stage.specs.Listed.{IsListed}
use Rattle.tool_stages.specs.Goes.{CanBeAudited, CanCompile, OfObserver}
use Rattle.lab_bound.specs.Answer.{IsBoundAnswer}

-- Nothing but want of memory stops the command: both files are told to hold bytes, and the program of the one can be
-- audited from the starts of the other.
pub record CanBound (content : Content) (file starts observer : List ℕ) (e : Environment) (t : ℕ) : Type 0 where
  pub known : IsKnown (content file)
  pub known_starts : IsKnown (content starts)
  pub goes : CanCompile (content file) (Some observer) (λ p q o. (ss : List StartValue) × IsListed (content starts) p ss
      × OfObserver (λ l. CanBeAudited e t q l ss) o)

-- Where both files are told to hold bytes, and neither count of faults rose, two answers are one: they have the same
-- status and the same text.
abbrev pub HasOneBound : Type 0
HasOneBound =
    (content : Content) (before now : List ℕ → ℕ) (file starts observer : List ℕ) (e : Environment) (t : ℕ) (s u : Status) (x y : List ℕ) →
    IsKnown (content file) → IsKnown (content starts) → (Rose (before file) (now file) → ⊥) → (Rose (before starts) (now starts) → ⊥) →
    IsBoundAnswer (λ name. Rose (before name) (now name)) content file starts observer e t s x
    → IsBoundAnswer (λ name. Rose (before name) (now name)) content file starts observer e t u y →
    (s ≡ u) × (x ≡ y)

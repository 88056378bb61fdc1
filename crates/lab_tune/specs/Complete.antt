-- When `tune` can be done, and that it has one answer.
use Rattle.std.specs.Prelude.{◌≡◌, ℕ, List, Option, Some, None}
use Rattle.tim_base.specs.Faults.{Rose}
use Rattle.timing_types.specs.Labelled.{LabelledProgram}
use Rattle.start_file.specs.Starts.{StartValue}
use Rattle.tool_stages.specs.declared.envs.Environment.{Environment}
use Rattle.tool_texts.specs.declared.status.Status.{Status}
use Rattle.tool_stages.specs.Content.{Content, IsKnown}
use Rattle.space_stage.specs.Listed.{IsListed}
use Rattle.tool_stages.specs.Goes.{CanBeAudited, CanCompile, OfObserver}
use Rattle.lab_tune.specs.Answer.{HasNumber, NoneIn, TooLongIn, IsTuneAnswer}

-- a number of bits is given, and no first prediction tells as little as that
abbrev pub NoneTells : Environment → ℕ → LabelledProgram → ℕ → ℕ → Option ℕ → List StartValue → Type 0
NoneTells e t q o mark None ss = ⊥
NoneTells e t q o mark (Some bits) ss = NoneIn e t q o mark bits ss

-- a number is pushed for the estimate of the mitigate with a mark, no run is too long to be told, and if a number of bits is given, not all
-- first predictions tell more
pub record CanBeTuned (e : Environment) (t : ℕ) (q : LabelledProgram) (o mark : ℕ) (bits : Option ℕ) (ss : List StartValue) : Type 0 where
  pub number : HasNumber q mark
  pub ends : TooLongIn e t q o mark ss → ⊥
  pub some : NoneTells e t q o mark bits ss → ⊥

-- Nothing but want of memory stops the command: both files are told to hold bytes, and the program of the one can be
-- audited from the starts of the other, and tuned.
pub record CanTune (content : Content) (file starts observer : List ℕ) (e : Environment) (t mark : ℕ) (bits : Option ℕ) : Type 0 where
  pub known : IsKnown (content file)
  pub known_starts : IsKnown (content starts)
  pub goes : CanCompile (content file) (Some observer) (λ p q o. (ss : List StartValue) × IsListed (content starts) p ss
      × OfObserver (λ l. CanBeAudited e t q l ss × CanBeTuned e t q l mark bits ss) o)

-- Where both files are told to hold bytes, and neither count of faults rose, two answers are one: they have the same
-- status and the same text.
abbrev pub HasOneTune : Type 0
HasOneTune =
    (content : Content) (before now : List ℕ → ℕ) (file starts observer : List ℕ) (e : Environment) (t mark : ℕ) (bits : Option ℕ)
    (s u : Status) (x y : List ℕ) →
    IsKnown (content file) → IsKnown (content starts) → (Rose (before file) (now file) → ⊥) → (Rose (before starts) (now starts) → ⊥) →
    IsTuneAnswer (λ name. Rose (before name) (now name)) content file starts observer e t mark bits s x
    → IsTuneAnswer (λ name. Rose (before name) (now name)) content file starts observer e t mark bits u y →
    (s ≡ u) × (x ≡ y)

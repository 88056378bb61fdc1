-- `timeline` has one answer.
use Rattle.std.specs.Prelude.{◌≡◌, ℕ, List, Bool, Option}
use Rattle.tim_base.specs.Faults.{Rose}
use Rattle.tool_stages.specs.declared.envs.Environment.{Environment}
use Rattle.tool_texts.specs.declared.status.Status.{Status}
use Rattle.tool_stages.specs.Content.{Content, IsKnown}
use Rattle.lab_timeline.specs.Timed.{TellsTimelines}

-- Where both files are told to hold bytes, and neither count of faults rose, two answers are one: they have the same
-- status and the same text.
abbrev pub HasOneTimelines : Type 0
HasOneTimelines =
    (content : Content) (before now : List ℕ → ℕ) (file starts : List ℕ) (observer : Option (List ℕ)) (e : Environment) (budget : ℕ) (refused : Bool)
    (s u : Status) (t x : List ℕ) →
    IsKnown (content file) → IsKnown (content starts) → (Rose (before file) (now file) → ⊥) → (Rose (before starts) (now starts) → ⊥) →
    TellsTimelines (λ name. Rose (before name) (now name)) content file starts observer e budget refused s t
    → TellsTimelines (λ name. Rose (before name) (now name)) content file starts observer e budget refused u x →
    (s ≡ u) × (t ≡ x)

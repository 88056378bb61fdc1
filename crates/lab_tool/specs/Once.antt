-- A question has one answer.
use Rattle.std.specs.Prelude.{◌≡◌, ℕ, List}
use Rattle.tim_base.specs.Faults.{Rose}
use Rattle.tool_texts.specs.declared.status.Status.{Status}
use Rattle.tool_stages.specs.Content.{Content, AreKnown, NoneRises}
use Rattle.lab_words.specs.QuestionAsked.{Asked}
use Rattle.lab_tool.specs.Answers.{IsAnswer}
use Rattle.lab_tool.specs.Complete.{files_of}

-- Where each file that the question names is told to hold bytes, and none of their counts of faults rose, two answers to
-- it have the same status and the same text.
abbrev pub HasOneAnswer : Type 0
HasOneAnswer =
    (content : Content) (before now : List ℕ → ℕ) (a : Asked) (s u : Status) (t x : List ℕ) →
    AreKnown content (files_of a) → NoneRises (λ name. Rose (before name) (now name)) (files_of a) →
    IsAnswer (λ name. Rose (before name) (now name)) content a s t → IsAnswer (λ name. Rose (before name) (now name)) content a u x →
    (s ≡ u) × (t ≡ x)

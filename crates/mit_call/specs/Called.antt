-- How a call of the tool ends: what the sink or the writer has taken, and its status or its exit number.
use Rattle.std.specs.Prelude.{◌≡◌, ◌⊎◌, ℕ, List, Option, None, IfSome, IsTrue}
use Rattle.tool_words.specs.WordsAsked.{command_of}
use Rattle.tool_texts.specs.declared.status.Status.{Status}
use Rattle.tool_texts.specs.declared.status.Status.TheVariants as status
use Rattle.tool_texts.specs.Ends.{EndsBy, Nothing}
use Rattle.tool_texts.specs.Statuses.{exit_number}
use Rattle.tool_stages.specs.Accepted.{is_past_typing, IsAccepted, TypedAreSound}
use Rattle.tool_stages.specs.Content.{Content, NoneRises}
use Rattle.mit_tool.specs.Answers.{IsUsage}
use Rattle.mit_tool.specs.Commands.{files_of, IsAnswer, Before, typed_content, HeldTypes, AreWithin}
use Rattle.mit_tool.specs.Complete.{CanBeDone}
use Rattle.mit_tool.specs.Held.{EndsByOne}
use Rattle.mit_tool.specs.Ran.{RunsSoundly}

-- The clauses of `mitigate_main`, over all that was taken in the end. `Rises` tells the names whose counts of faults rose, and
-- `Risen` that the sink's count did.
pub record HasEnded (content : Content) (Rises : List ℕ → Type 0) (Risen : Type 0) (old new : Option (List ℕ)) (words : List (List ℕ))
    (s : Status) : Type 0 where
  pub answered : IfSome (command_of words) (λ a. EndsBy old new (Before content a) (IsAnswer Rises content a) s)
  pub ran : RunsSoundly content old new words s
  pub usage : command_of words ≡ None → EndsBy old new Nothing IsUsage s
  pub sound : TypedAreSound
  pub accepted : IsTrue (is_past_typing s) → IfSome (command_of words) (λ a. IfSome (typed_content content a) IsAccepted)
  pub rechecked : IsTrue (is_past_typing s) → IfSome (command_of words) (HeldTypes content)
  pub complete : IfSome (command_of words) (λ a. CanBeDone content a → NoneRises Rises (files_of a) → (Risen → ⊥) → (s ≡ status.Done) ⊎ (s ≡ status.Memory))
  pub write : s ≡ status.WriteFault → Risen
  pub one : IfSome (command_of words) (λ a. EndsByOne content Rises Risen old new a s)
  pub bounded : IfSome (command_of words) AreWithin

-- It ends so with a status of this exit number. A writer tells no faults, so it may always have had one: when it fails is not
-- said here.
pub record HasCalled (content : Content) (Rises : List ℕ → Type 0) (old new : Option (List ℕ)) (words : List (List ℕ)) (exit : ℕ) : Type 0 where
  pub status : Status
  pub number : exit ≡ exit_number status
  pub ended : HasEnded content Rises (Unit {0}) old new words status

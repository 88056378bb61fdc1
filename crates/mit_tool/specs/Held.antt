-- What the files hold that a command names: one content, of which the answer, acceptance and completeness all speak.
use Rattle.std.specs.Prelude.{◌≡◌, ◌⊎◌, ℕ, List, [], ◌∷◌, Option, Some, IsSome, IfSome, IsTrue}
use Rattle.tool_texts.specs.declared.status.Status.{Status}
use Rattle.tool_texts.specs.declared.status.Status.TheVariants as status
use Rattle.tool_words.specs.WordsAsked.{Asked}
use Rattle.tool_texts.specs.Ends.{EndsBy}
use Rattle.mit_tool.specs.Commands.{files_of, IsAnswer, Before, typed_content, HeldTypes}
use Rattle.tool_stages.specs.Accepted.{IsAccepted, is_past_typing}
use Rattle.mit_tool.specs.Complete.{CanBeDone}
use Rattle.tool_stages.specs.Content.{Content, NoneRises}

-- the bytes of each file, or None where there is no such file
abbrev pub Held : Type 0
Held = List ℕ → Option (List ℕ)

-- all of it is told
abbrev pub told_all : Held → Content
told_all held name = Some (held name)

-- it is what a shelf tells, wherever that tells
abbrev pub HoldsTold : Content → Held → Type 0
HoldsTold content held = (name : List ℕ) (h : Option (List ℕ)) → content name ≡ Some h → held name ≡ h

-- Of a file that is named twice the shelf tells what it holds: else its two readings may give different bytes.
abbrev pub AreReadAlike : Content → List (List ℕ) → Type 0
AreReadAlike content (first ∷ second ∷ []) = first ≡ second → IsSome (content first)
AreReadAlike content names = Unit {0}

-- The files hold bytes by which the call ended with the answer to the command; the program that they spell is accepted,
-- or the labelling that a certificate holds types it, where the call came past the typing; and the command is done,
-- want of memory aside, where by these bytes it can be and no count of faults rose.
pub record EndsByHeld (content : Content) (Rises : List ℕ → Type 0) (Risen : Type 0) (old new : Option (List ℕ)) (a : Asked) (s : Status) : Type 0 where
  pub held : Held
  pub told : HoldsTold content held
  pub answered : EndsBy old new (Before (told_all held) a) (IsAnswer Rises (told_all held) a) s
  pub accepted : IsTrue (is_past_typing s) → IfSome (typed_content (told_all held) a) IsAccepted
  pub rechecked : IsTrue (is_past_typing s) → HeldTypes (told_all held) a
  pub complete : CanBeDone (told_all held) a → NoneRises Rises (files_of a) → (Risen → ⊥) → (s ≡ status.Done) ⊎ (s ≡ status.Memory)

-- it is so of a command whose files are read alike
abbrev pub EndsByOne : Content → (List ℕ → Type 0) → Type 0 → Option (List ℕ) → Option (List ℕ) → Asked → Status → Type 0
EndsByOne content Rises Risen old new a s = AreReadAlike content (files_of a) → EndsByHeld content Rises Risen old new a s

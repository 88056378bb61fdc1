-- What holds of a call by the command that its words ask for.
use Rattle.std.proofs.Common.{◌≡◌, ◌⊎◌, List, ℕ, Option}
use Rattle.std.specs.Prelude.{IfSome, IsTrue}
use Rattle.tool_words.specs.WordsAsked.{Asked, IsInRange}
use Rattle.tool_texts.specs.declared.status.Status.{Status}
use Rattle.tool_texts.specs.declared.status.Status.TheVariants as status
use Rattle.tool_texts.specs.Ends.{EndsBy}
use Rattle.tool_stages.specs.Content.{Content, NoneRises}
use Rattle.tool_stages.specs.Accepted.{IsAccepted, is_past_typing}
use Rattle.mit_tool.specs.Commands.{files_of, IsAnswer, Before, typed_content, HeldTypes}
use Rattle.mit_tool.specs.Complete.{CanBeDone}
use Rattle.mit_tool.specs.Held.{Held, told_all, HoldsTold, AreReadAlike}
use Rattle.tool_texts.proofs.EndLemmas.{ends_done}
use Rattle.mit_tool.proofs.PastLemmas.{ended_past}
use Rattle.mit_tool.proofs.OneHeld.{ends_some}
use Rattle.mit_tool.proofs.CommandLemmas.{answer_past, held_past, answer_held, before_held, answers_done}

-- ---- how a call ended

-- a call that ended past the typing
pub ends_past : (Rises : List ℕ → Type 0) (content : Content) (a : Asked) (old new : Option (List ℕ)) (Earlier : List ℕ → Type 0) (s : Status)
    → EndsBy old new Earlier (IsAnswer Rises content a) s → IsTrue (is_past_typing s) → IfSome (typed_content content a) IsAccepted
ends_past Rises content a old new Earlier s h past =
    ended_past old new Earlier (IsAnswer Rises content a) (IfSome (typed_content content a) IsAccepted)
    (λ s t late x. answer_past Rises content s t late a x) s h past

pub ends_rechecked : (Rises : List ℕ → Type 0) (content : Content) (a : Asked) (old new : Option (List ℕ)) (Earlier : List ℕ → Type 0)
    (s : Status) → EndsBy old new Earlier (IsAnswer Rises content a) s → IsTrue (is_past_typing s) → HeldTypes content a
ends_rechecked Rises content a old new Earlier s h past =
    ended_past old new Earlier (IsAnswer Rises content a) (HeldTypes content a) (λ s t late x. held_past Rises content a s t late x) s h past

-- a call that ended with an answer ended with one by what the files hold
pub ends_held : (Rises : List ℕ → Type 0) (content : Content) (a : Asked) (old new : Option (List ℕ)) (s : Status) → AreReadAlike content (files_of a)
    → EndsBy old new (Before content a) (IsAnswer Rises content a) s
    → (held : Held) × HoldsTold content held × EndsBy old new (Before (told_all held) a) (IsAnswer Rises (told_all held) a) s
ends_held Rises content a old new s alike =
    ends_some (HoldsTold content) (Before content a) (λ held. Before (told_all held) a) (IsAnswer Rises content a) (λ held. IsAnswer Rises (told_all held) a)
    (λ b. before_held content a b alike) (λ s t. answer_held Rises content s t a alike) old new s

-- a command that can be done is done
pub completes : (old new : Option (List ℕ)) (Rises : List ℕ → Type 0) (content : Content) (a : Asked) (r : Status) (Rose : Type 0)
    → EndsBy old new (Before content a) (IsAnswer Rises content a) r → (r ≡ status.WriteFault → Rose)
    → IsInRange a → CanBeDone content a → NoneRises Rises (files_of a) → (Rose → ⊥) → (r ≡ status.Done) ⊎ (r ≡ status.Memory)
completes old new Rises content a r Rose ends write range can none n =
    ends_done old new (Before content a) (IsAnswer Rises content a) r ends (λ e. n (write e))
    (λ t h. answers_done Rises content r t a range none can.known can.goes h)

-- How a call ends, from how the tool ended and what became of the text.
use Rattle.std.proofs.Common.{◌≡◌, ◌⊎◌, inl, inr, ℕ, List, Option, Some, None, IfSome, IsTrue, sym, subst, ◌∙◌}
use Rattle.std.specs.Io.KnownBytes.{Keeps}
use Rattle.tool_words.specs.WordsAsked.{Asked, command_of}
use Rattle.tool_texts.specs.declared.status.Status.{Status}
use Rattle.tool_texts.specs.declared.status.Status.TheVariants as status
use Rattle.tool_texts.specs.Ends.{EndsBy, Nothing}
use Rattle.tool_stages.specs.Accepted.{is_past_typing}
use Rattle.tool_stages.specs.Content.{Content}
use Rattle.mit_tool.specs.Answers.{IsUsage}
use Rattle.mit_tool.specs.Commands.{IsAnswer, Before}
use Rattle.mit_tool.specs.Held.{EndsByHeld, told_all}
use Rattle.mit_tool.proofs.RanLemmas.{RanSoundly, ends_ran, runs_soundly}
use Rattle.mit_call.specs.Called.{HasEnded}
use Rattle.mit_call.proofs.Cut.{ends_kept, ends_broken}

-- what holds of each command holds after a change for each
if_some_map : {A : Type 0} {P Q : A → Type 0} (o : Option A) → ((a : A) → P a → Q a) → IfSome o P → IfSome o Q
if_some_map None f h = h
if_some_map (Some a) f h = f a h

-- A way from what was handed on to what was taken: each end of the one is an end of the other, with the same status or a
-- fault of the writing.
pub record Leads (Risen Rises : Type 0) (old taken new : Option (List ℕ)) (s t : Status) : Type 1 where
  pub is : (t ≡ s) ⊎ (t ≡ status.WriteFault)
  pub rose : Risen → Rises
  pub fails : t ≡ status.WriteFault → Rises
  pub ends : (B : List ℕ → Type 0) (A : Status → List ℕ → Type 0) → EndsBy old taken B A s → EndsBy old new B A t

-- a call that failed is not past the typing
failed_early : {P : Type 0} → IsTrue (is_past_typing status.WriteFault) → P
failed_early h = cc

past : (s t : Status) → (t ≡ s) ⊎ (t ≡ status.WriteFault) → IsTrue (is_past_typing t) → IsTrue (is_past_typing s)
past s t is h =
    elim is [
      | inl e ↦ subst (λ x. IsTrue (is_past_typing x)) e h
      | inr e ↦ failed_early (subst (λ x. IsTrue (is_past_typing x)) e h)
    ]

-- a call that has not failed is done where the tool was
done : (Rises : Type 0) (s t : Status) → (t ≡ s) ⊎ (t ≡ status.WriteFault) → (t ≡ status.WriteFault → Rises) → (Rises → ⊥)
    → (s ≡ status.Done) ⊎ (s ≡ status.Memory) → (t ≡ status.Done) ⊎ (t ≡ status.Memory)
done Rises s t (inl e) fails none h = elim h [ inl d ↦ inl (e ∙ d) | inr m ↦ inr (e ∙ m) ]
done Rises s t (inr e) fails none h = absurd (none (fails e))

-- the writer kept what it had
pub leads_kept : (Risen Rises : Type 0) (old taken new : Option (List ℕ)) (s t : Status) → (t ≡ s) ⊎ (t ≡ status.WriteFault)
    → (Risen → Rises) → (t ≡ status.WriteFault → Rises) → Keeps taken new → Leads Risen Rises old taken new s t
leads_kept Risen Rises old taken new s t e rose fails k = record {
  is = e;
  rose = rose;
  fails = fails;
  ends = λ B A h. elim e [
    | inl same ↦ subst (EndsBy old new B A) (sym same) (ends_kept old taken new B A s k h)
    | inr broke ↦ subst (EndsBy old new B A) (sym broke) (ends_broken old taken new B A s k h)
  ];
}

-- how the tool ended leads to how the call ended
pub ended : (content : Content) (Names : List ℕ → Type 0) (Risen Rises : Type 0) (old taken new : Option (List ℕ)) (words : List (List ℕ)) (s t : Status)
    → Leads Risen Rises old taken new s t → HasEnded content Names Risen old taken words s → HasEnded content Names Rises old new words t
ended content Names Risen Rises old taken new words s t l h = record {
  answered = if_some_map (command_of words) (λ a e. l.ends (Before content a) (IsAnswer Names content a) e) h.answered;
  ran = runs_soundly content old new t words
      (if_some_map {P = λ a. EndsBy old taken (Before content a) (IsAnswer Names content a) s} {Q = RanSoundly content old new t} (command_of words)
      (λ a e. ends_ran h.sound Names content old new (Before content a) t a (l.ends (Before content a) (IsAnswer Names content a) e)) h.answered);
  usage = λ none. l.ends Nothing IsUsage (h.usage none);
  sound = h.sound;
  accepted = λ p. h.accepted (past s t l.is p);
  rechecked = λ p. h.rechecked (past s t l.is p);
  complete = if_some_map (command_of words) (λ a full can quiet none. done Rises s t l.is l.fails none (full can quiet (λ r. none (l.rose r)))) h.complete;
  write = l.fails;
  one = if_some_map (command_of words) (λ a one alike. held a (one alike)) h.one;
  bounded = h.bounded;
}
  where
    held : (a : Asked) → EndsByHeld content Names Risen old taken a s → EndsByHeld content Names Rises old new a t
    held a e = record {
      held = e.held;
      told = e.told;
      answered = l.ends (Before (told_all e.held) a) (IsAnswer Names (told_all e.held) a) e.answered;
      accepted = λ p. e.accepted (past s t l.is p);
      rechecked = λ p. e.rechecked (past s t l.is p);
      complete = λ can quiet none. done Rises s t l.is l.fails none (e.complete can quiet (λ r. none (l.rose r)));
    }

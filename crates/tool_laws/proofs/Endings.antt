-- How a call ends that has one answer.
use Rattle.std.proofs.Common.{◌≡◌, ◌≢◌, ◌⊎◌, ◌∙◌, refl, ap, subst, ℕ, List, [], ◌++◌, Option, inl, inr}
use Rattle.std.specs.Io.KnownBytes.{Appends}
use Rattle.tool_texts.specs.declared.status.Status.{Status}
use Rattle.tool_texts.specs.declared.status.Status.TheVariants as status
use Rattle.tool_texts.specs.Texts.{memory_line}
use Rattle.tool_texts.specs.Ends.{EndsBy}

-- an answer is written, or the line for memory
abbrev pub Ended : List ℕ → Option (List ℕ) → Option (List ℕ) → Status → Type 0
Ended answer old new s = ((s ≡ status.Done) × Appends old new answer) ⊎ ((s ≡ status.Memory) × Appends old new memory_line)

-- it is the one answer
abbrev pub IsOne : List ℕ → (Status → List ℕ → Type 0) → Type 0
IsOne answer Answer = (s : Status) (t : List ℕ) → Answer s t → (s ≡ status.Done) × (t ≡ answer)

module _ (answer : List ℕ) (old new : Option (List ℕ)) (Answer : Status → List ℕ → Type 0) (one : IsOne answer Answer) where
  answered : (s : Status) → (t : List ℕ) × Answer s t × Appends old new t → Ended answer old new s
  answered s a = let k = one s a.0 a.1 in inl (k.0, subst (λ (t : List ℕ). Appends old new t) k.1 a.2)

  without : (t : List ℕ) → (b : List ℕ) × (b ≡ []) × (t ≡ b ++ memory_line) → t ≡ memory_line
  without t a = a.2 ∙ ap (λ (b : List ℕ). b ++ memory_line) a.1

  pub ends : (s : Status) → EndsBy old new (λ b. b ≡ []) Answer s → s ≢ status.WriteFault → Ended answer old new s
  ends status.Done e n = answered status.Done e
  ends status.Refused e n = answered status.Refused e
  ends status.Syntax e n = answered status.Syntax e
  ends status.Starts e n = answered status.Starts e
  ends status.Usage e n = answered status.Usage e
  ends status.ReadFault e n = answered status.ReadFault e
  ends status.WriteFault e n = absurd (n refl)
  ends status.TooLong e n = answered status.TooLong e
  ends status.Budget e n = answered status.Budget e
  ends status.Disagree e n = answered status.Disagree e
  ends status.Unfinished e n = answered status.Unfinished e
  ends status.Rejected e n = answered status.Rejected e
  ends status.Memory e n = inr (refl, subst (λ (t : List ℕ). Appends old new t) (without e.0 e.1) e.2)

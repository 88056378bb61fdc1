-- One answer at most: the end of a run without its time.
use Rattle.std.proofs.Common.{◌≡◌, ◌≤◌, ◌<◌, ◌+◌, ◌-◌, ◌⊎◌, ℕ, zero, suc, ℤ, List, ◌++◌, inl, inr, sym, ap, subst, ◌∙◌, arith}
use Rattle.std.proofs.lemmas.Bool.{cases_order}
use Rattle.mit_syntax.specs.Todo.{Done}
use Rattle.mit_syntax.specs.Plan.{Plan}
use Rattle.mit_syntax.specs.Program.{Syntax, plan_of}
use Rattle.source_meaning.specs.Source.{Source, source_step, source_steps, source_start, HasEnded}
use Rattle.source_meaning.proofs.Told.{done_stays}
use Rattle.start_file.specs.Starts.{StartValue}
use Rattle.tool_texts.specs.declared.status.Status.{Status}
use Rattle.tool_texts.specs.Texts.{ended_line}
use Rattle.mit_tool.specs.Means.{lines_after, EndsAfter, IsLastLine, HasMeant}
use Rattle.tool_stages.proofs.OneLemmas.{Same}

-- ---- a run without its time

ended_later : {M L : Type 0} (k : ℕ) (σ : Source M L) (n : ℕ) → (source_steps n σ).todo ≡ Done → (source_steps (n + k) σ).todo ≡ Done
ended_later k σ zero h = let e : 0 + k ≡ k = omega arith in ap (λ z. (source_steps z σ).todo) e ∙ ap (λ z. z.todo) (done_stays k σ h) ∙ h
ended_later k σ (suc n) h = let e : suc n + k ≡ suc (n + k) = omega arith in ap (λ z. (source_steps z σ).todo) e ∙ ended_later k (source_step σ) n h

ended_by : (p : Plan) (memory : List ℤ) (steps n : ℕ) → steps ≤ n → HasEnded p memory steps → HasEnded p memory n
ended_by p memory steps n l h =
    let e : steps + (n - steps) ≡ n = omega (arith, l) in
    subst (λ (z : ℕ). HasEnded p memory z) e (ended_later (n - steps) (source_start p memory) steps h)

one_end : (p : Plan) (memory : List ℤ) (n a b : ℕ) → EndsAfter p memory n a → EndsAfter p memory n b → a ≡ b
one_end p memory n a b h k = either (cases_order a b)
  where
    either : (a ≡ b) ⊎ ((a < b) ⊎ (b < a)) → a ≡ b
    either (inl is) = is
    either (inr (inl l)) = absurd (k.least a l h.ended)
    either (inr (inr l)) = absurd (h.least b l k.ended)

one_last : (p : Plan) (memory : List ℤ) (n : ℕ) (t x : List ℕ) → IsLastLine p memory n t → IsLastLine p memory n x → t ≡ x
one_last p memory n t x (inl h) (inl k) = h.2 ∙ ap ended_line (one_end p memory n h.0 k.0 h.1 k.1) ∙ sym k.2
one_last p memory n t x (inl h) (inr k) = absurd (k.0 (ended_by p memory h.0 n h.1.within h.1.ended))
one_last p memory n t x (inr h) (inl k) = absurd (h.0 (ended_by p memory k.0 n k.1.within k.1.ended))
one_last p memory n t x (inr h) (inr k) = h.1 ∙ sym k.1

pub one_meaning : (p : Syntax) (start : StartValue) (n : ℕ) (s u : Status) (t x : List ℕ) → HasMeant p start n s t → HasMeant p start n u x → Same s u t x
one_meaning p start n s u t x h k =
    let last : h.1 ≡ k.1 = one_last (plan_of p) start.memory n h.1 k.1 h.2 k.2 in
    (h.0 ∙ sym k.0, h.3 ∙ ap (λ (z : List ℕ). lines_after p start.memory n ++ z) last ∙ sym k.3)

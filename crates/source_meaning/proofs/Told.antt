-- What n steps of the meaning tell.
use Rattle.std.proofs.Common.{◌≡◌, ℕ, zero, suc, ◌+◌, List, [], ◌∷◌, ◌++◌, append_assoc, append-nil, refl, sym, ap, ◌∙◌, ◌⊎◌, inl, inr, ⊎_elim, arith}
use Rattle.std.specs.Prelude.{ℤ}
use Rattle.mit_syntax.specs.Todo.{Todo, Done, Skip, Assign, Put, Sleep, If, While, Mitigate}
use Rattle.mit_syntax.specs.Values.{element, value_of}
use Rattle.source_meaning.specs.Source.{Note, Assigned, Started, Source, source_act, source_step, source_steps, source_start, notes_of, HasEnded}

abbrev pub IsPrefix : {A : Type 0} → List A → List A → Type 0
IsPrefix {A} xs ys = (later : List A) × (xs ++ later ≡ ys)

pub prefix_then : {A : Type 0} (xs ys zs : List A) → IsPrefix xs ys → IsPrefix ys zs → IsPrefix xs zs
prefix_then xs ys zs p q = (p.0 ++ q.0, sym (append_assoc xs p.0 q.0) ∙ ap (λ t. t ++ q.0) p.1 ∙ q.1)

pub prefix_same : {A : Type 0} (xs ys : List A) → xs ≡ ys → IsPrefix xs ys
prefix_same xs ys e = ([], append-nil xs ∙ e)

-- a source step tells at most one thing
pub step_notes : {M L : Type 0} (σ : Source M L) → ((source_step σ).notes ≡ σ.notes) ⊎ ((d : Note) × ((source_step σ).notes ≡ σ.notes ++ d ∷ []))
step_notes {M} {L} σ = go σ.todo
  where
    go : (t : Todo M L) → ((source_act t σ.memory σ.notes).notes ≡ σ.notes) ⊎ ((d : Note) × ((source_act t σ.memory σ.notes).notes ≡ σ.notes ++ d ∷ []))
    go Done = inl refl
    go (Skip m r) = inl refl
    go (Assign m x e r) = inr (Assigned x (value_of e σ.memory), refl)
    go (Put m f n i e r) = inr (Assigned (element f n (value_of i σ.memory)) (value_of e σ.memory), refl)
    go (Sleep m e r) = inl refl
    go (If m e c d r) = inl refl
    go (While m e c r) = inl refl
    go (Mitigate m k l e c r) = inr (Started k, refl)

pub steps_notes : {M L : Type 0} (n : ℕ) (σ : Source M L) → IsPrefix σ.notes (source_steps n σ).notes
steps_notes zero σ = prefix_same σ.notes σ.notes refl
steps_notes (suc n) σ =
    prefix_then σ.notes (source_step σ).notes _
    (⊎_elim (λ e. prefix_same σ.notes (source_step σ).notes (sym e)) (λ p. (p.0 ∷ [], sym p.1)) (step_notes σ))
    (steps_notes n (source_step σ))

pub same_rest : {A : Type 0} (xs ys zs : List A) → xs ++ ys ≡ xs ++ zs → ys ≡ zs
same_rest [] ys zs e = e
same_rest (x ∷ xs) ys zs e = same_rest xs ys zs (cc)

-- each beginning of what is told after n steps, if it has what is told already, is told after some number of steps
pub between : {M L : Type 0} (n : ℕ) (σ : Source M L) (more later : List Note) → (σ.notes ++ more) ++ later ≡ (source_steps n σ).notes
    → (k : ℕ) × ((source_steps k σ).notes ≡ σ.notes ++ more)
between n σ [] later e = (0, sym (append-nil σ.notes))
between zero σ (d ∷ more) later e =
    let p : d ∷ (more ++ later) ≡ [] =
    same_rest σ.notes (d ∷ (more ++ later)) [] (sym (append_assoc σ.notes (d ∷ more) later) ∙ e ∙ sym (append-nil σ.notes)) in
    absurd (cc)
between (suc n) σ (d ∷ more) later e =
    ⊎_elim
    (λ (q : (source_step σ).notes ≡ σ.notes).
    let r = between n (source_step σ) (d ∷ more) later (ap (λ z. (z ++ d ∷ more) ++ later) q ∙ e) in
    (suc r.0, r.1 ∙ ap (λ z. z ++ d ∷ more) q))
    (λ (q : (d' : Note) × ((source_step σ).notes ≡ σ.notes ++ d' ∷ [])).
    let rest = steps_notes n (source_step σ) in
    let whole = sym (append_assoc σ.notes (d ∷ more) later) ∙ e ∙ sym rest.1 ∙ ap (λ z. z ++ rest.0) q.1 ∙ append_assoc σ.notes (q.0 ∷ []) rest.0 in
    let tails : d ∷ (more ++ later) ≡ q.0 ∷ rest.0 = same_rest σ.notes (d ∷ (more ++ later)) (q.0 ∷ rest.0) whole in
    let heads : d ≡ q.0 = cc in
    let now : (source_step σ).notes ≡ σ.notes ++ d ∷ [] = q.1 ∙ ap (λ z. σ.notes ++ z ∷ []) (sym heads) in
    let split = ap (λ z. z ++ more) now ∙ append_assoc σ.notes (d ∷ []) more in
    let r = between n (source_step σ) more later (ap (λ z. z ++ later) split ∙ e) in
    (suc r.0, r.1 ∙ split))
    (step_notes σ)

pub done_stays : {M L : Type 0} (n : ℕ) (σ : Source M L) → σ.todo ≡ Done → source_steps n σ ≡ σ
done_stays zero σ e = refl
done_stays {M} {L} (suc n) σ e =
    let s : source_step σ ≡ σ = ap (λ t. source_act t σ.memory σ.notes) e
    ∙ ap (λ t. let r : Source M L = record { todo = t; memory = σ.memory; notes = σ.notes } in r) (sym e) in
    ap (source_steps n) s ∙ done_stays n σ e

later_same : {M L : Type 0} (k : ℕ) (σ : Source M L) (n : ℕ) → (source_steps n σ).todo ≡ Done → (source_steps (n + k) σ).notes ≡ (source_steps n σ).notes
later_same k σ zero h = let e : 0 + k ≡ k = omega arith in ap (λ z. (source_steps z σ).notes) e ∙ ap (λ z. z.notes) (done_stays k σ h)
later_same k σ (suc n) h = let e : suc n + k ≡ suc (n + k) = omega arith in ap (λ z. (source_steps z σ).notes) e ∙ later_same k (source_step σ) n h

-- all that is told until the end is told whatever the number of steps
pub ended_same : {M L : Type 0} (p : Todo M L) (m : List ℤ) (n n' : ℕ) → HasEnded p m n → HasEnded p m n' → notes_of p m n ≡ notes_of p m n'
ended_same p m n n' h h' =
    let e : n + n' ≡ n' + n = omega arith in
    sym (later_same n' (source_start p m) n h) ∙ ap (λ z. notes_of p m z) e ∙ later_same n (source_start p m) n' h'

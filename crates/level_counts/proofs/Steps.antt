-- What a step of a walk begins, and what it does to the memory.
use Rattle.std.proofs.Common.{◌≡◌, ◌<◌, ℕ, ◌⊎◌, inl, inr, refl, sym, ap, ◌∙◌, List, [], ◌∷◌, Some, None, arith}
use Rattle.std.specs.Prelude.{ℤ, Bool, slice_get, slice_set}
use Rattle.mit_syntax.specs.Expression.{Expression}
use Rattle.mit_syntax.specs.Todo.{Done, Skip, Assign, Put, Sleep, If, While, Mitigate}
use Rattle.mit_syntax.specs.Plan.{Plan}
use Rattle.mit_syntax.specs.Values.{value_of, element}
use Rattle.doubling_schedule.specs.Doubling.{prediction}
use Rattle.source_meaning.specs.declared.walk.Walk.{Walk}
use Rattle.source_meaning.specs.declared.walk.Walk.TheVariants.{Assigned as DidAssign, Began, Silent, Ended}
use Rattle.source_meaning.specs.Source.{Assigned, Started, source_act, started_in}
use Rattle.source_meaning.specs.Walked.{Standing, told_by, source_at}
use Rattle.level_counts.specs.Begun.{begins_next}
use Rattle.level_counts.specs.Noted.{begun, stored}
use Rattle.level_counts.proofs.Table.{Tells}

-- nothing begins
pub record Quiet (rel : ℕ → Bool) (ls : ℕ → ℕ) (es : List Expression) (p : Plan) (m : List ℤ) (walk : Walk) : Type 0 where
  pub next : begins_next p m ≡ None
  pub marks : started_in (told_by walk) ≡ []
  pub none : begun rel ls es walk m ≡ None

-- a mitigate begins
pub record Begins (es : List Expression) (p : Plan) (m : List ℤ) (walk : Walk) : Type 0 where
  pub mark : ℕ
  pub estimate : Expression
  pub walk_is : walk ≡ Began mark
  pub told : slice_get es mark ≡ Some estimate
  pub next : begins_next p m ≡ Some (mark, prediction (value_of estimate m) 0)

module _ (rel : ℕ → Bool) (ls : ℕ → ℕ) (es : List Expression) (m : List ℤ) where
  silent : (p : Plan) (walk : Walk) → begins_next p m ≡ None → [] ≡ told_by walk → Quiet rel ls es p m walk
  silent p (DidAssign x n) h e = absurd (cc)
  silent p (Began k) h e = absurd (cc)
  silent p Silent h e = record { next = h; marks = refl; none = refl }
  silent p Ended h e = record { next = h; marks = refl; none = refl }

  assigns : (p : Plan) (walk : Walk) (x : ℕ) (n : ℤ) → begins_next p m ≡ None → Assigned x n ∷ [] ≡ told_by walk → Quiet rel ls es p m walk
  assigns p (DidAssign y k) x n h e = record { next = h; marks = refl; none = refl }
  assigns p (Began k) x n h e = absurd (cc)
  assigns p Silent x n h e = absurd (cc)
  assigns p Ended x n h e = absurd (cc)

  starts : (walk : Walk) (k : ℕ) → Started k ∷ [] ≡ told_by walk → walk ≡ Began k
  starts (DidAssign y j) k e = absurd (cc)
  starts (Began j) k e = let same : k ≡ j = cc in ap (λ z. Began z) (sym same)
  starts Silent k e = absurd (cc)
  starts Ended k e = absurd (cc)

  pub does : (p : Plan) (new : Standing) (walk : Walk) → Tells es p → source_act p m [] ≡ source_at new (told_by walk)
      → Quiet rel ls es p m walk ⊎ Begins es p m walk
  does Done new walk h s = inl (silent Done walk refl (ap (λ σ. σ.notes) s))
  does (Skip l r) new walk h s = inl (silent (Skip l r) walk refl (ap (λ σ. σ.notes) s))
  does (Assign l x e r) new walk h s = inl (assigns (Assign l x e r) walk x (value_of e m) refl (ap (λ σ. σ.notes) s))
  does (Put l f n i e r) new walk h s = inl (assigns (Put l f n i e r) walk (element f n (value_of i m)) (value_of e m) refl (ap (λ σ. σ.notes) s))
  does (Sleep l e r) new walk h s = inl (silent (Sleep l e r) walk refl (ap (λ σ. σ.notes) s))
  does (If l e a b r) new walk h s = inl (silent (If l e a b r) walk refl (ap (λ σ. σ.notes) s))
  does (While l e c r) new walk h s = inl (silent (While l e c r) walk refl (ap (λ σ. σ.notes) s))
  does (Mitigate l k v e c r) new walk h s =
      inr (record { mark = k; estimate = e; walk_is = starts walk k (ap (λ σ. σ.notes) s); told = h.0; next = refl })

silent_memory : (m : List ℤ) (walk : Walk) → [] ≡ told_by walk → m ≡ stored walk m
silent_memory m (DidAssign x n) e = absurd (cc)
silent_memory m (Began k) e = refl
silent_memory m Silent e = refl
silent_memory m Ended e = refl

assigned_memory : (m : List ℤ) (walk : Walk) (x : ℕ) (n : ℤ) → Assigned x n ∷ [] ≡ told_by walk → slice_set m x n ≡ stored walk m
assigned_memory m (DidAssign y k) x n e = let a : x ≡ y = cc in let b : n ≡ k = cc in ap (λ z. slice_set m z n) a ∙ ap (slice_set m y) b
assigned_memory m (Began k) x n e = absurd (cc)
assigned_memory m Silent x n e = absurd (cc)
assigned_memory m Ended x n e = absurd (cc)

started_memory : (m : List ℤ) (walk : Walk) (k : ℕ) → Started k ∷ [] ≡ told_by walk → m ≡ stored walk m
started_memory m (DidAssign x n) k e = absurd (cc)
started_memory m (Began j) k e = refl
started_memory m Silent k e = refl
started_memory m Ended k e = refl

-- the memory after a step is the one with what was assigned
pub memory_after : (p : Plan) (m : List ℤ) (new : Standing) (walk : Walk) → source_act p m [] ≡ source_at new (told_by walk) → new.memory ≡ stored walk m
memory_after Done m new walk s = sym (ap (λ σ. σ.memory) s) ∙ silent_memory m walk (ap (λ σ. σ.notes) s)
memory_after (Skip l r) m new walk s = sym (ap (λ σ. σ.memory) s) ∙ silent_memory m walk (ap (λ σ. σ.notes) s)
memory_after (Assign l x e r) m new walk s = sym (ap (λ σ. σ.memory) s) ∙ assigned_memory m walk x (value_of e m) (ap (λ σ. σ.notes) s)
memory_after (Put l f n i e r) m new walk s =
    sym (ap (λ σ. σ.memory) s) ∙ assigned_memory m walk (element f n (value_of i m)) (value_of e m) (ap (λ σ. σ.notes) s)
memory_after (Sleep l e r) m new walk s = sym (ap (λ σ. σ.memory) s) ∙ silent_memory m walk (ap (λ σ. σ.notes) s)
memory_after (If l e a b r) m new walk s = sym (ap (λ σ. σ.memory) s) ∙ silent_memory m walk (ap (λ σ. σ.notes) s)
memory_after (While l e c r) m new walk s = sym (ap (λ σ. σ.memory) s) ∙ silent_memory m walk (ap (λ σ. σ.notes) s)
memory_after (Mitigate l k v e c r) m new walk s = sym (ap (λ σ. σ.memory) s) ∙ started_memory m walk k (ap (λ σ. σ.notes) s)

-- a first prediction is at least 1
pub some_prediction : (p : Plan) (m : List ℤ) (k x : ℕ) → begins_next p m ≡ Some (k, x) → 0 < x
some_prediction Done m k x e = absurd (cc)
some_prediction (Skip l r) m k x e = absurd (cc)
some_prediction (Assign l y i r) m k x e = absurd (cc)
some_prediction (Put l f n i j r) m k x e = absurd (cc)
some_prediction (Sleep l i r) m k x e = absurd (cc)
some_prediction (If l i a b r) m k x e = absurd (cc)
some_prediction (While l i c r) m k x e = absurd (cc)
some_prediction (Mitigate l j v i c r) m k x e =
    let pair : ◌≡◌ {A = ℕ × ℕ} (j, prediction (value_of i m) 0) (k, x) = cc in
    let same : prediction (value_of i m) 0 ≡ x = ap (λ z. z.1) pair in
    omega (arith, same)

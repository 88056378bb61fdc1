-- Labels play no part in the meaning.
use Rattle.std.proofs.Common.{◌≡◌, ℕ, zero, suc, List, refl, sym, ap, ◌∙◌}
use Rattle.std.specs.Prelude.{Bool, true, false, cond, ℤ}
use Rattle.mit_syntax.specs.Todo.{Todo, Done, Skip, Assign, Put, Sleep, If, While, Mitigate, then_todo, map_todo}
use Rattle.mit_syntax.specs.Values.{value_of, holds}
use Rattle.source_meaning.specs.Source.{Note, Source, source_act, source_step, source_steps, source_start, notes_of, HasEnded}

module _ {M L M' L' : Type 0} (f : M → M') (g : L → L') where
  map-then : (p q : Todo M L) → map_todo f g (then_todo p q) ≡ then_todo (map_todo f g p) (map_todo f g q)
  map-then Done q = refl
  map-then (Skip m p) q = ap (λ z. Skip (f m) z) (map-then p q)
  map-then (Assign m x e p) q = ap (λ z. Assign (f m) x e z) (map-then p q)
  map-then (Put m a n i e p) q = ap (λ z. Put (f m) a n i e z) (map-then p q)
  map-then (Sleep m e p) q = ap (λ z. Sleep (f m) e z) (map-then p q)
  map-then (If m e a b p) q = ap (λ z. If (f m) e (map_todo f g a) (map_todo f g b) z) (map-then p q)
  map-then (While m e c p) q = ap (λ z. While (f m) e (map_todo f g c) z) (map-then p q)
  map-then (Mitigate m k l e c p) q = ap (λ z. Mitigate (f m) k (g l) e (map_todo f g c) z) (map-then p q)

  -- the same state with other marks and levels
  abbrev pub map_source : Source M L → Source M' L'
  map_source s = record { todo = map_todo f g s.todo; memory = s.memory; notes = s.notes }

  with_todo : (t t' : Todo M' L') (m : List ℤ) (n : List Note) → t ≡ t'
      → ◌≡◌ {A = Source M' L'} (record { todo = t; memory = m; notes = n }) (record { todo = t'; memory = m; notes = n })
  with_todo t t' m n e = ap (λ z. let r : Source M' L' = record { todo = z; memory = m; notes = n } in r) e

  map-act : (t : Todo M L) (m : List ℤ) (n : List Note) → map_source (source_act t m n) ≡ source_act (map_todo f g t) m n
  map-act Done m n = refl
  map-act (Skip l r) m n = refl
  map-act (Sleep l e r) m n = refl
  map-act (Assign l x e r) m n = refl
  map-act (Put l a k i e r) m n = refl
  map-act (If l e a b r) m n = with_todo _ _ m n (go (holds (value_of e m)))
    where
      go : (w : Bool) → map_todo f g (cond w (then_todo a r) (then_todo b r))
          ≡ cond w (then_todo (map_todo f g a) (map_todo f g r)) (then_todo (map_todo f g b) (map_todo f g r))
      go true = map-then a r
      go false = map-then b r
  map-act (While l e c r) m n = with_todo _ _ m n (go (holds (value_of e m)))
    where
      go : (w : Bool) → map_todo f g (cond w (then_todo c (While l e c r)) r)
          ≡ cond w (then_todo (map_todo f g c) (map_todo f g (While l e c r))) (map_todo f g r)
      go true = map-then c (While l e c r)
      go false = refl
  map-act (Mitigate l k v e c r) m n = with_todo _ _ m _ (map-then c r)

  pub map-steps : (k : ℕ) (s : Source M L) → map_source (source_steps k s) ≡ source_steps k (map_source s)
  map-steps zero s = refl
  map-steps (suc k) s = map-steps k (source_step s) ∙ ap (source_steps k) (map-act s.todo s.memory s.notes)

  -- the notes of a program are those of its commands alone
  pub notes_unlabelled : (p : Todo M L) (m : List ℤ) (n : ℕ) → notes_of (map_todo f g p) m n ≡ notes_of p m n
  notes_unlabelled p m n = ap (λ s. s.notes) (sym (map-steps n (source_start p m)))

  done_from : (t : Todo M L) → map_todo f g t ≡ Done → t ≡ Done
  done_from Done e = refl
  done_from (Skip m p) e = absurd cc
  done_from (Assign m x i p) e = absurd cc
  done_from (Put m a n i j p) e = absurd cc
  done_from (Sleep m i p) e = absurd cc
  done_from (If m i a b p) e = absurd cc
  done_from (While m i c p) e = absurd cc
  done_from (Mitigate m k l i c p) e = absurd cc

  -- and so is its end
  pub ended_with : (p : Todo M L) (m : List ℤ) (n : ℕ) → HasEnded p m n → HasEnded (map_todo f g p) m n
  ended_with p m n e = ap (λ s. s.todo) (sym (map-steps n (source_start p m))) ∙ ap (map_todo f g) e

  pub ended_without : (p : Todo M L) (m : List ℤ) (n : ℕ) → HasEnded (map_todo f g p) m n → HasEnded p m n
  ended_without p m n e = done_from (source_steps n (source_start p m)).todo (ap (λ s. s.todo) (map-steps n (source_start p m)) ∙ e)

-- The last element of a stack is put in another's place.
use Rattle.std.proofs.Common.{◌≡◌, ℕ, zero, suc, ◌-◌, ◌<◌, List, [], ◌∷◌, ◌++◌, length, take, map, refl, sym, ap, ◌∙◌, arith, true, false, Bool, get_or, All}
use Rattle.std.specs.Prelude.{slice_set, ◌==◌}
use borrow.Author.Tests.{eqb-true}
use Rattle.mit_syntax.specs.declared.ast.Command.{Command}
use Rattle.source_meaning.specs.Frames.{some_list}

pub some_full : (f : List Command) (b : Bool) → b ≡ (length f == 0) → b ≡ false → some_list f ≡ f ∷ []
some_full [] b e n = absurd cc
some_full (c ∷ cs) b e n = refl

pub some_none : (f : List Command) (b : Bool) → b ≡ (length f == 0) → b ≡ true → some_list f ≡ []
some_none [] b e n = refl
some_none (c ∷ cs) b e n = let z : suc (length cs) ≡ 0 = eqb-true (suc (length cs)) 0 (sym e ∙ n) in absurd (omega (arith, z))

module _ {A B : Type 0} (f : A → B) where
  length_map : (xs : List A) → length (map f xs) ≡ length xs
  length_map [] = refl
  length_map (x ∷ xs) = ap suc (length_map xs)

  put_last : (xs : List A) (k : ℕ) (x : A) → suc k ≡ length xs → map f (slice_set xs k x) ≡ take k (map f xs) ++ f x ∷ []
  put_last [] k x e = absurd (omega (arith, e))
  put_last (y ∷ []) zero x e = refl
  put_last (y ∷ z ∷ zs) zero x e = absurd (omega (arith, e))
  put_last (y ∷ xs) (suc k) x e = ap (λ l. f y ∷ l) (put_last xs k x (omega (arith, e)))

  put_before : (xs : List A) (k : ℕ) (x b : A) → suc k ≡ length xs → map f (slice_set (xs ++ b ∷ []) k x) ≡ take k (map f xs) ++ (f x ∷ f b ∷ [])
  put_before [] k x b e = absurd (omega (arith, e))
  put_before (y ∷ []) zero x b e = refl
  put_before (y ∷ z ∷ zs) zero x b e = absurd (omega (arith, e))
  put_before (y ∷ xs) (suc k) x b e = ap (λ l. f y ∷ l) (put_before xs k x b (omega (arith, e)))

  at_last : (xs : List A) (n : ℕ) → n ≡ length xs → 0 < n → take (n - 1) (map f xs) ≡ take (length (map f xs) - 1) (map f xs)
  at_last xs n e h = let m : n - 1 ≡ length (map f xs) - 1 = omega (arith, e, length_map xs) in ap (λ k. take k (map f xs)) m

  pub last_put : (xs : List A) (n : ℕ) (x : A) → n ≡ length xs → 0 < n → map f (slice_set xs (n - 1) x) ≡ take (length (map f xs) - 1) (map f xs) ++ f x ∷ []
  last_put xs n x e h = put_last xs (n - 1) x (omega (arith, e, h)) ∙ ap (λ l. l ++ f x ∷ []) (at_last xs n e h)

  pub last_two : (xs all : List A) (n : ℕ) (x b : A) → all ≡ xs ++ b ∷ [] → n ≡ length xs → 0 < n
      → map f (slice_set all (n - 1) x) ≡ take (length (map f xs) - 1) (map f xs) ++ (f x ∷ f b ∷ [])
  last_two xs all n x b is e h =
      ap (λ l. map f (slice_set l (n - 1) x)) is ∙ (put_before xs (n - 1) x b (omega (arith, e, h)) ∙ ap (λ l. l ++ (f x ∷ f b ∷ [])) (at_last xs n e h))

  last_at : (xs : List A) (k : ℕ) (x : A) → suc k ≡ length xs → x ≡ get_or xs k x → map f xs ≡ take k (map f xs) ++ f x ∷ []
  last_at [] k x e is = absurd (omega (arith, e))
  last_at (y ∷ []) zero x e is = ap (λ z. f z ∷ []) (sym is)
  last_at (y ∷ z ∷ zs) zero x e is = absurd (omega (arith, e))
  last_at (y ∷ xs) (suc k) x e is = ap (λ l. f y ∷ l) (last_at xs k x (omega (arith, e)) is)

  -- a stack is what is below its last element, and that
  pub last_there : (xs : List A) (n : ℕ) (x : A) → n ≡ length xs → 0 < n → x ≡ get_or xs (n - 1) x
      → map f xs ≡ take (length (map f xs) - 1) (map f xs) ++ f x ∷ []
  last_there xs n x e h is = last_at xs (n - 1) x (omega (arith, e, h)) is ∙ ap (λ l. l ++ f x ∷ []) (at_last xs n e h)

pub All-last : {X : Type 0} (P : X → Type 0) (xs : List X) (x : X) → All P (xs ++ x ∷ []) → P x
All-last P [] x h = h 0 x (omega arith)
All-last P (y ∷ ys) x h = All-last P ys x (λ k d l. h (suc k) d (omega (arith, l)))

-- Two lists of the same things, each thing once, are equally long.
use Rattle.std.proofs.Common.{◌≡◌, suc, ◌≤◌, List, [], ◌∷◌, length, refl, sym, ap, ◌∙◌, subst, inl, inr, arith}
use Rattle.leak_bound.specs.Records.{Each}
use Rattle.sharp_count.specs.Lists.{IsAmong, AllDiffer}

module _ {X : Type 0} where
  pub each-among : (P : X → Type 0) (x : X) (xs : List X) → Each P xs → IsAmong x xs → P x
  each-among P x [] h i = absurd i
  each-among P x (y ∷ xs) h (inl e) = subst P (sym e) h.0
  each-among P x (y ∷ xs) h (inr i) = each-among P x xs h.1 i

  -- a list without one of its members
  record Without (x : X) (xs : List X) : Type 0 where
    rest : List X
    longer : length xs ≡ suc (length rest)
    others : (y : X) → (x ≡ y → ⊥) → IsAmong y xs → IsAmong y rest

  without : (x : X) (xs : List X) → IsAmong x xs → Without x xs
  without x [] i = absurd i
  without x (y ∷ xs) (inl e) = record { rest = xs; longer = refl; others = here }
    where
      here : (z : X) → (x ≡ z → ⊥) → IsAmong z (y ∷ xs) → IsAmong z xs
      here z ne (inl q) = absurd (ne (e ∙ sym q))
      here z ne (inr i) = i
  without x (y ∷ xs) (inr i) = there (without x xs i)
    where
      there : Without x xs → Without x (y ∷ xs)
      there w = record { rest = y ∷ w.rest; longer = ap suc w.longer; others = later }
        where
          later : (z : X) → (x ≡ z → ⊥) → IsAmong z (y ∷ xs) → IsAmong z (y ∷ w.rest)
          later z ne (inl q) = inl q
          later z ne (inr j) = inr (w.others z ne j)

  pub no_longer : (xs ys : List X) → AllDiffer xs → ((x : X) → IsAmong x xs → IsAmong x ys) → length xs ≤ length ys
  no_longer [] ys d f = omega arith
  no_longer (x ∷ xs) ys d f =
      let w = without x ys (f x (inl refl)) in
      let less : length xs ≤ length w.rest = no_longer xs w.rest d.1 (λ y i. w.others y (each-among (λ z. x ≡ z → ⊥) y xs d.0 i) (f y (inr i))) in
      omega (arith, less, w.longer)

  pub same_length : (P : X → Type 0) (xs ys : List X) →
      Each P xs → ((x : X) → P x → IsAmong x xs) → AllDiffer xs →
      Each P ys → ((x : X) → P x → IsAmong x ys) → AllDiffer ys → length xs ≡ length ys
  same_length P xs ys each whole differ each' whole' differ' =
      let less : length xs ≤ length ys = no_longer xs ys differ (λ x i. whole' x (each-among P x xs each i)) in
      let more : length ys ≤ length xs = no_longer ys xs differ' (λ x i. whole x (each-among P x ys each' i)) in
      omega (arith, less, more)

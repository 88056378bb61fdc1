-- A list cut at one of its members, in two ways.
use Rattle.std.proofs.Common.{◌≡◌, List, [], ◌∷◌, ◌++◌, refl, sym, ap, ◌∙◌, ◌⊎◌, inl, inr}
use Rattle.leak_bound.specs.Records.{Each}

-- one cut comes before another
pub record Earlier {X : Type 0} (xs : List X) (x : X) (ys : List X) : Type 0 where
  pub between : List X
  pub are : ys ≡ xs ++ x ∷ between

pub record SameCut {X : Type 0} (xs : List X) (x : X) (ys : List X) (y : X) : Type 0 where
  pub before : xs ≡ ys
  pub at : x ≡ y

head_is : {X : Type 0} (a b : X) (r q : List X) → a ∷ r ≡ b ∷ q → a ≡ b
head_is a b r q e = cc

tail_is : {X : Type 0} (a b : X) (r q : List X) → a ∷ r ≡ b ∷ q → r ≡ q
tail_is a b r q e = cc

-- cuts of one list are the same, or one comes before the other
pub two_cuts : {X : Type 0} (xs ys r q : List X) (x y : X) → xs ++ x ∷ r ≡ ys ++ y ∷ q → SameCut xs x ys y ⊎ (Earlier xs x ys ⊎ Earlier ys y xs)
two_cuts [] [] r q x y e = inl (record { before = refl; at = head_is x y r q e })
two_cuts [] (b ∷ ys) r q x y e = inr (inl (record { between = ys; are = ap (λ z. z ∷ ys) (sym (head_is x b r (ys ++ y ∷ q) e)) }))
two_cuts (a ∷ xs) [] r q x y e = inr (inr (record { between = xs; are = ap (λ z. z ∷ xs) (head_is a y (xs ++ x ∷ r) q e) }))
two_cuts (a ∷ xs) (b ∷ ys) r q x y e = go (two_cuts xs ys r q x y (tail_is a b (xs ++ x ∷ r) (ys ++ y ∷ q) e))
  where
    heads : a ≡ b
    heads = head_is a b (xs ++ x ∷ r) (ys ++ y ∷ q) e

    go : SameCut xs x ys y ⊎ (Earlier xs x ys ⊎ Earlier ys y xs) → SameCut (a ∷ xs) x (b ∷ ys) y ⊎ (Earlier (a ∷ xs) x (b ∷ ys) ⊎ Earlier (b ∷ ys) y (a ∷ xs))
    go (inl s) = inl (record { before = ap (λ z. z ∷ xs) heads ∙ ap (λ z. b ∷ z) s.before; at = s.at })
    go (inr (inl s)) = inr (inl (record { between = s.between; are = ap (λ z. z ∷ ys) (sym heads) ∙ ap (λ z. a ∷ z) s.are }))
    go (inr (inr s)) = inr (inr (record { between = s.between; are = ap (λ z. z ∷ xs) heads ∙ ap (λ z. b ∷ z) s.are }))

pub Each-at : {X : Type 0} (P : X → Type 0) (xs r : List X) (x : X) → Each P (xs ++ x ∷ r) → P x
Each-at P [] r x h = h.0
Each-at P (a ∷ xs) r x h = Each-at P xs r x h.1

pub Each-more : {X : Type 0} (P : X → Type 0) (xs : List X) (x : X) → Each P xs → P x → Each P (xs ++ x ∷ [])
Each-more P [] x h p = (p, tt)
Each-more P (a ∷ xs) x h p = (h.0, Each-more P xs x h.1 p)

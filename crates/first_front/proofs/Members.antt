-- What is one of a list.
use Rattle.std.proofs.Common.{◌≡◌, ℕ, zero, suc, ◌<◌, List, [], ◌∷◌, map, length, get_or, arith, refl, ap, sym, subst, Bool, true, false, inl, inr, ◌⊎◌, ◌∙◌}
use Rattle.std.specs.List.{All, IsAmong, list_any, filter}
use Rattle.std.proofs.lemmas.Bool.{cases_Bool, or_cases, or_parts, cond-true, cond-false}

abbrev pub In : {X : Type 0} → X → List X → Type 0
In x [] = ⊥
In x (y ∷ ys) = (x ≡ y) ⊎ In x ys

pub in_at : {X : Type 0} (xs : List X) (k : ℕ) (d : X) → k < length xs → In (get_or xs k d) xs
in_at [] k d h = absurd (omega (arith, h))
in_at (x ∷ xs) zero d h = inl refl
in_at (x ∷ xs) (suc k) d h = inr (in_at xs k d (omega (arith, h)))

pub all_in : {X : Type 0} (P : X → Type 0) (xs : List X) → ((x : X) → In x xs → P x) → All P xs
all_in P xs each = λ k d h. each (get_or xs k d) (in_at xs k d h)

pub among : {X : Type 0} (f : X → ℕ) (xs : List X) (x : X) → In x xs → IsAmong (map f xs) (f x)
among f [] x h = absurd h
among f (y ∷ ys) x h =
    elim h [
      | inl e ↦ (0, (omega arith, ap f e))
      | inr m ↦ let k = among f ys x m in let l = k.1.0 in (suc k.0, (omega (arith, l), k.1.1))
    ]

-- one of the list that passes a test
pub record Passes {X : Type 0} (p : X → Bool) (xs : List X) : Type 0 where
  pub one : X
  pub there : In one xs
  pub yes : p one ≡ true

pub any_passes : {X : Type 0} (p : X → Bool) (xs : List X) → list_any p xs ≡ true → Passes p xs
any_passes p [] h = cc
any_passes p (x ∷ xs) h =
    elim (or_cases (p x) (list_any p xs) h) [
      | inl e ↦ record { one = x; there = inl refl; yes = e }
      | inr e ↦ let k = any_passes p xs e in record { one = k.one; there = inr k.there; yes = k.yes }
    ]

pub none_passes : {X : Type 0} (p : X → Bool) (xs : List X) (x : X) → list_any p xs ≡ false → In x xs → p x ≡ false
none_passes p [] x h there = absurd there
none_passes p (y ∷ ys) x h there =
    let parts = or_parts (p y) (list_any p ys) h in
    elim there [
      | inl e ↦ ap p e ∙ parts.0
      | inr m ↦ none_passes p ys x parts.1 m
    ]

pub in_filter : {X : Type 0} (p : X → Bool) (xs : List X) (x : X) → In x xs → p x ≡ true → In x (filter p xs)
in_filter p [] x there h = there
in_filter p (y ∷ ys) x there h =
    elim there [
      | inl e ↦ subst (λ z. In x z) (sym (cond-true (p y) (y ∷ filter p ys) (filter p ys) (ap p (sym e) ∙ h))) (inl e)
      | inr m ↦
          let rest = in_filter p ys x m h in
          elim (cases_Bool (p y)) [
            | inl b ↦ subst (λ z. In x z) (sym (cond-true (p y) (y ∷ filter p ys) (filter p ys) b)) (inr rest)
            | inr b ↦ subst (λ z. In x z) (sym (cond-false (p y) (y ∷ filter p ys) (filter p ys) b)) rest
          ]
    ]

-- it is one of the list, and passes
pub record Kept {X : Type 0} (p : X → Bool) (xs : List X) (x : X) : Type 0 where
  pub there : In x xs
  pub yes : p x ≡ true

pub of_filter : {X : Type 0} (p : X → Bool) (xs : List X) (x : X) → In x (filter p xs) → Kept p xs x
of_filter p [] x h = absurd h
of_filter p (y ∷ ys) x h =
    elim (cases_Bool (p y)) [
      | inl b ↦ elim (subst (λ z. In x z) (cond-true (p y) (y ∷ filter p ys) (filter p ys) b) h) [
        | inl e ↦ record { there = inl e; yes = ap p e ∙ b }
        | inr m ↦ let k = of_filter p ys x m in record { there = inr k.there; yes = k.yes }
      ]
      | inr b ↦
          let k = of_filter p ys x (subst (λ z. In x z) (cond-false (p y) (y ∷ filter p ys) (filter p ys) b) h) in
          record { there = inr k.there; yes = k.yes }
    ]

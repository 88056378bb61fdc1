-- Of things that numbers below m tell apart there are at most m different ones.
use Rattle.std.proofs.Common.{◌≡◌, ℕ, ◌<◌, ◌≤◌, List, [], ◌∷◌, ◌++◌, length, map, Bool, true, false, refl, sym, ap, ◌∙◌, subst, ⊎_elim, arith}
use Rattle.std.specs.Prelude.{not, cond, eqb}
use Rattle.std.specs.List.{filter, list_any, IsDistinct, AllByRecursion}
use Rattle.std.proofs.lemmas.Bool.{or_cases, eqb-true, both_ways, not-true, false_from_ne_true}
use Rattle.std.proofs.lemmas.List.{length-map}
use Rattle.std.proofs.lemmas.Map.Steps.{length-le_from_distinct_below}
use Rattle.leak_bound.specs.Records.{distinct, distinct_count, Tests, Each}

map_filter : {X V : Type 0} (see : X → V) (p : V → Bool) (xs : List X) → map see (filter (λ x. p (see x)) xs) ≡ filter p (map see xs)
map_filter see p [] = refl
map_filter see p (x ∷ xs) = go (p (see x)) (map_filter see p xs)
  where
    go : (b : Bool) → map see (filter (λ x. p (see x)) xs) ≡ filter p (map see xs)
        → map see (cond b (x ∷ filter (λ x. p (see x)) xs) (filter (λ x. p (see x)) xs)) ≡ cond b (see x ∷ filter p (map see xs)) (filter p (map see xs))
    go true e = ap (λ t. see x ∷ t) e
    go false e = e

pub map_distinct : {X V : Type 0} (see : X → V) (same : V → V → Bool) (xs : List X)
    → map see (distinct (λ x y. same (see x) (see y)) xs) ≡ distinct same (map see xs)
map_distinct see same [] = refl
map_distinct see same (x ∷ xs) =
    ap (λ t. see x ∷ t) (map_filter see (λ w. not (same (see x) w)) (distinct (λ x y. same (see x) (see y)) xs)
    ∙ ap (filter (λ w. not (same (see x) w))) (map_distinct see same xs))

-- each is apart from all that follow
abbrev pub Spread : {X : Type 0} → (X → X → Bool) → List X → Type 0
Spread same [] = Unit {0}
Spread same (x ∷ xs) = Each (λ y. same x y ≡ false) xs × Spread same xs

pub Each-map : {X : Type 0} (P Q : X → Type 0) → ((x : X) → P x → Q x) → (xs : List X) → Each P xs → Each Q xs
Each-map P Q f [] h = tt
Each-map P Q f (x ∷ xs) h = (f x h.0, Each-map P Q f xs h.1)

pub Each-both : {X : Type 0} (P Q : X → Type 0) (xs : List X) → Each P xs → Each Q xs → Each (λ x. P x × Q x) xs
Each-both P Q [] h k = tt
Each-both P Q (x ∷ xs) h k = ((h.0, k.0), Each-both P Q xs h.1 k.1)

pub Each-append : {X : Type 0} (P : X → Type 0) (xs ys : List X) → Each P xs → Each P ys → Each P (xs ++ ys)
Each-append P [] ys h k = k
Each-append P (x ∷ xs) ys h k = (h.0, Each-append P xs ys h.1 k)

-- what holds of all holds of those that pass
pub Each-pass : {X : Type 0} (P : X → Type 0) (t : X → Bool) (xs : List X) → Each P xs → Each (λ x. P x × (t x ≡ true)) (filter t xs)
Each-pass P t [] h = tt
Each-pass P t (x ∷ xs) h = go (t x) refl (Each-pass P t xs h.1)
  where
    go : (b : Bool) → t x ≡ b → Each (λ x. P x × (t x ≡ true)) (filter t xs) → Each (λ x. P x × (t x ≡ true)) (cond b (x ∷ filter t xs) (filter t xs))
    go true e r = ((h.0, e), r)
    go false e r = r

pub Each-filter : {X : Type 0} (P : X → Type 0) (t : X → Bool) (xs : List X) → Each P xs → Each P (filter t xs)
Each-filter P t xs h = Each-map (λ x. P x × (t x ≡ true)) P (λ x a. a.0) (filter t xs) (Each-pass P t xs h)

passes : {X : Type 0} (t : X → Bool) (xs : List X) → Each (λ x. t x ≡ true) (filter t xs)
passes t [] = tt
passes t (x ∷ xs) = go (t x) refl (passes t xs)
  where
    go : (b : Bool) → t x ≡ b → Each (λ x. t x ≡ true) (filter t xs) → Each (λ x. t x ≡ true) (cond b (x ∷ filter t xs) (filter t xs))
    go true e r = (e, r)
    go false e r = r

Spread-filter : {X : Type 0} (same : X → X → Bool) (t : X → Bool) (xs : List X) → Spread same xs → Spread same (filter t xs)
Spread-filter same t [] h = tt
Spread-filter same t (x ∷ xs) h = go (t x) (Spread-filter same t xs h.1)
  where
    go : (b : Bool) → Spread same (filter t xs) → Spread same (cond b (x ∷ filter t xs) (filter t xs))
    go true r = (Each-filter (λ y. same x y ≡ false) t xs h.0, r)
    go false r = r

pub Spread-distinct : {X : Type 0} (same : X → X → Bool) (xs : List X) → Spread same (distinct same xs)
Spread-distinct same [] = tt
Spread-distinct same (x ∷ xs) = (
  Each-map (λ y. not (same x y) ≡ true) (λ y. same x y ≡ false) (λ y h. not-true (same x y) h) _ (passes (λ y. not (same x y)) (distinct same xs)),
  Spread-filter same (λ y. not (same x y)) (distinct same xs) (Spread-distinct same xs),
)

module _ {X V : Type 0} (see : X → V) (number : X → ℕ) (m : ℕ) (below : (x : X)
    → number x < m) (same : V → V → Bool) (tests : Tests same) (determined : (x y : X) → number x ≡ number y → see x ≡ see y) where
  abbrev alike : X → X → Bool
  alike x y = same (see x) (see y)

  apart : (x y : X) → alike x y ≡ false → eqb (number x) (number y) ≡ false
  apart x y h = false_from_ne_true (eqb (number x) (number y))
      (λ t. both_ways (alike x y) h (tests.same_from (see x) (see y) (determined x y (eqb-true (number x) (number y) t))))

  apart_all : (x : X) (ys : List X) → Each (λ y. alike x y ≡ false) ys → AllByRecursion (λ n. eqb (number x) n ≡ false) (map number ys)
  apart_all x [] h = tt
  apart_all x (y ∷ ys) h = (apart x y h.0, apart_all x ys h.1)

  numbers_differ : (xs : List X) → Spread alike xs → IsDistinct eqb (map number xs)
  unfolding IsDistinct
  numbers_differ [] h = tt
  numbers_differ (x ∷ xs) h = (apart_all x xs h.0, numbers_differ xs h.1)

  all_below : (xs : List X) (q : ℕ) → list_any (eqb q) (map number xs) ≡ true → q < m
  all_below [] q h = cc
  all_below (x ∷ xs) q h =
      ⊎_elim
      (λ (t : eqb q (number x) ≡ true). subst (λ n. n < m) (sym (eqb-true q (number x) t)) (below x))
      (λ (t : list_any (eqb q) (map number xs) ≡ true). all_below xs q t)
      (or_cases (eqb q (number x)) (list_any (eqb q) (map number xs)) h)

  pub count_few : (xs : List X) → distinct_count same (map see xs) ≤ m
  count_few xs =
      let kept = distinct alike xs in
      let few : length (map number kept) ≤ m =
      length-le_from_distinct_below (map number kept) m (numbers_differ kept (Spread-distinct alike xs)) (all_below kept) in
      let a = length-map kept number in
      let b = length-map kept see in
      let c = ap length (map_distinct see same xs) in
      omega arith

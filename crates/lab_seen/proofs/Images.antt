-- A list has at most as many different images as different members.
use Rattle.std.proofs.Common.{◌≡◌, ◌≤◌, List, [], ◌∷◌, length, Bool, true, false, refl, ap, ◌∙◌, arith}
use Rattle.std.specs.Prelude.{not, cond, map, ◌&&◌}
use Rattle.std.specs.List.{filter}
use Rattle.std.proofs.lemmas.Bool.{not-true}
use Rattle.leak_bound.specs.Records.{Tests, distinct, distinct_count}

filter_both : {X : Type 0} (p q : X → Bool) (xs : List X) → filter p (filter q xs) ≡ filter (λ x. q x && p x) xs
filter_both p q [] = refl
filter_both p q (x ∷ xs) = go (q x) (p x) (filter_both p q xs)
  where
    go : (b c : Bool) → filter p (filter q xs) ≡ filter (λ x. q x && p x) xs
        → filter p (cond b (x ∷ filter q xs) (filter q xs)) ≡ cond (b && p x) (x ∷ filter (λ x. q x && p x) xs) (filter (λ x. q x && p x) xs)
    go true c e = ap (λ l. cond (p x) (x ∷ l) l) e
    go false c e = e

filter_less : {X : Type 0} (p q : X → Bool) → ((x : X) → p x ≡ true → q x ≡ true) → (xs : List X) → length (filter p xs) ≤ length (filter q xs)
filter_less p q f [] = omega arith
filter_less p q f (x ∷ xs) = go (p x) (q x) refl refl (filter_less p q f xs)
  where
    go : (b c : Bool) → p x ≡ b → q x ≡ c → length (filter p xs) ≤ length (filter q xs)
        → length (cond b (x ∷ filter p xs) (filter p xs)) ≤ length (cond c (x ∷ filter q xs) (filter q xs))
    go true true e d h = omega (arith, h)
    go true false e d h = absurd (cc (f x e, d))
    go false true e d h = omega (arith, h)
    go false false e d h = h

all_pass : {X : Type 0} (xs : List X) → filter (λ x. true) xs ≡ xs
all_pass [] = refl
all_pass (x ∷ xs) = ap (λ l. x ∷ l) (all_pass xs)

both_first : (b c : Bool) → (b && c) ≡ true → b ≡ true
both_first true c e = refl
both_first false c e = absurd cc

both_second : (b c : Bool) → (b && c) ≡ true → c ≡ true
both_second true c e = e
both_second false c e = absurd cc

both_true : (b c : Bool) → b ≡ true → c ≡ true → (b && c) ≡ true
both_true b c e d = ap (λ z. z && c) e ∙ d

module _ {V W : Type 0} (f : V → W) (same : V → V → Bool) (same' : W → W → Bool) (tests : Tests same) (tests' : Tests same') where
  -- what has another image is another
  apart : (v y : V) → not (same' (f v) (f y)) ≡ true → not (same v y) ≡ true
  apart v y h = go (same v y) refl
    where
      go : (b : Bool) → same v y ≡ b → not b ≡ true
      go true e =
          let one : same' (f v) (f y) ≡ true = tests'.same_from (f v) (f y) (ap f (tests.same_to v y e)) in
          absurd (cc (one, not-true (same' (f v) (f y)) h))
      go false e = refl

  module _ (p : W → Bool) (v : V) (vs : List V) where
    rest : ((r : W → Bool) → length (filter r (distinct same' (map f vs))) ≤ length (filter (λ v. r (f v)) (distinct same vs)))
        → length (filter p (filter (λ w. not (same' (f v) w)) (distinct same' (map f vs)))) ≤ length
        (filter (λ v. p (f v)) (filter (λ y. not (same v y)) (distinct same vs)))
    rest few =
        let one = ap length (filter_both p (λ w. not (same' (f v) w)) (distinct same' (map f vs))) in
        let two = few (λ w. not (same' (f v) w) && p w) in
        let three = filter_less (λ y. not (same' (f v) (f y)) && p (f y)) (λ y. not (same v y) && p (f y))
        (λ y e. both_true (not (same v y)) (p (f y)) (apart v y (both_first (not (same' (f v) (f y))) (p (f y)) e))
        (both_second (not (same' (f v) (f y))) (p (f y)) e)) (distinct same vs) in
        let four = ap length (filter_both (λ v. p (f v)) (λ y. not (same v y)) (distinct same vs)) in
        omega (arith, one, two, three, four)

    with_first : (b : Bool) → length (filter p (filter (λ w. not (same' (f v) w)) (distinct same' (map f vs)))) ≤ length
        (filter (λ v. p (f v)) (filter (λ y. not (same v y)) (distinct same vs)))
        → length (cond b (f v ∷ filter p (filter (λ w. not (same' (f v) w)) (distinct same' (map f vs))))
        (filter p (filter (λ w. not (same' (f v) w)) (distinct same' (map f vs)))))
        ≤ length (cond b (v ∷ filter (λ v. p (f v)) (filter (λ y. not (same v y)) (distinct same vs)))
        (filter (λ v. p (f v)) (filter (λ y. not (same v y)) (distinct same vs))))
    with_first true h = omega (arith, h)
    with_first false h = h

  few_that : (p : W → Bool) (vs : List V) → length (filter p (distinct same' (map f vs))) ≤ length (filter (λ v. p (f v)) (distinct same vs))
  few_that p [] = omega arith
  few_that p (v ∷ vs) = with_first p v vs (p (f v)) (rest p v vs (λ r. few_that r vs))

  pub few_images : (vs : List V) → distinct_count same' (map f vs) ≤ distinct_count same vs
  few_images vs =
      let one = ap length (all_pass (distinct same' (map f vs))) in
      let two = few_that (λ w. true) vs in
      let three = ap length (all_pass (distinct same vs)) in
      omega (arith, one, two, three)

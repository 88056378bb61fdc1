-- A view multiplies what the best action gains by at most the number of views.
use Rattle.std.proofs.Common.{◌≡◌, ℕ, suc, ◌+◌, ◌*◌, ◌≤◌, List, [], ◌∷◌, length, map, Bool, true, false, refl, sym, ap, ◌∙◌, subst, inl, inr}
use Rattle.std.proofs.Common.{arith}
use Rattle.std.specs.Prelude.{cond, max, leb}
use Rattle.std.specs.List.{filter}
use Rattle.std.proofs.Math.Nat.{le-max_left, le-max_right, max-le, mul-le-mul_right}
use Rattle.std.proofs.lemmas.Bool.{leb-true, leb-false}
use Rattle.leak_bound.specs.Records.{distinct, distinct_count, Tests}
use Rattle.sharp_count.specs.Lists.{IsAmong}
use Rattle.sharp_bound.specs.Guess.{that_show}
use Rattle.gain_bound.proofs.Views.{over, over_views, over_all}
use Rattle.gain_bound.specs.Gain.{sum_over, gained, best_gain, best_gains, gain_after, gain_by, FewGain, ViewsGainFew, ChoicesGainFew}

-- ---- sums over those that pass

sum-filter : {X : Type 0} (f : X → ℕ) (t : X → Bool) (xs : List X) → sum_over f (filter t xs) ≤ sum_over f xs
sum-filter f t [] = omega arith
sum-filter f t (x ∷ xs) = go (t x) (sum-filter f t xs)
  where
    go : (b : Bool) → sum_over f (filter t xs) ≤ sum_over f xs → sum_over f (cond b (x ∷ filter t xs) (filter t xs)) ≤ f x + sum_over f xs
    go true h = omega (arith, h)
    go false h = omega (arith, h)

-- two numbers that are the same for those that pass have the same sums
pub sum_same : {X : Type 0} (f g : X → ℕ) (t : X → Bool) → ((x : X) → t x ≡ true → f x ≡ g x) → (xs : List X)
    → sum_over f (filter t xs) ≡ sum_over g (filter t xs)
sum_same f g t e [] = refl
sum_same f g t e (x ∷ xs) = go (t x) refl (sum_same f g t e xs)
  where
    go : (b : Bool) → t x ≡ b → sum_over f (filter t xs) ≡ sum_over g (filter t xs)
        → sum_over f (cond b (x ∷ filter t xs) (filter t xs)) ≡ sum_over g (cond b (x ∷ filter t xs) (filter t xs))
    go true p h = let here = e x p in omega (arith, h, here)
    go false p h = h

-- ---- the best of some actions

module _ {X A : Type 0} (weight : X → ℕ) (gain : A → X → ℕ) where
  best-filter : (actions : List A) (t : X → Bool) (xs : List X) → best_gain weight gain actions (filter t xs) ≤ best_gain weight gain actions xs
  best-filter [] t xs = omega arith
  best-filter (a ∷ actions) t xs =
      let g = gained weight gain xs a in
      let b = best_gain weight gain actions xs in
      max-le (omega (arith, sum-filter (λ x. weight x * gain a x) t xs, le-max_left g b)) (omega (arith, best-filter actions t xs, le-max_right g b))

  pub best_is_best : (actions : List A) (xs : List X) (a : A) → IsAmong a actions → gained weight gain xs a ≤ best_gain weight gain actions xs
  best_is_best [] xs a h = absurd h
  best_is_best (b ∷ actions) xs a (inl e) =
      subst (λ z. gained weight gain xs z ≤ best_gain weight gain (b ∷ actions) xs) (sym e)
      (le-max_left (gained weight gain xs b) (best_gain weight gain actions xs))
  best_is_best (b ∷ actions) xs a (inr h) =
      omega (arith, best_is_best actions xs a h, le-max_right (gained weight gain xs b) (best_gain weight gain actions xs))

  pub best_is_least : (actions : List A) (xs : List X) (m : ℕ) → ((a : A) → IsAmong a actions → gained weight gain xs a ≤ m)
      → best_gain weight gain actions xs ≤ m
  best_is_least [] xs m h = omega arith
  best_is_least (a ∷ actions) xs m h = max-le (h a (inl refl)) (best_is_least actions xs m (λ b i. h b (inr i)))

  -- one that is best
  abbrev best_action : A → List A → List X → A
  best_action a [] xs = a
  best_action a (b ∷ actions) xs = cond (leb (best_gain weight gain (b ∷ actions) xs) (gained weight gain xs a)) a (best_action b actions xs)

  among_best : (a : A) (actions : List A) (xs : List X) → IsAmong (best_action a actions xs) (a ∷ actions)
  among_best a [] xs = inl refl
  among_best a (b ∷ actions) xs = go (leb (best_gain weight gain (b ∷ actions) xs) (gained weight gain xs a)) (among_best b actions xs)
    where
      go : (c : Bool) → IsAmong (best_action b actions xs) (b ∷ actions) → IsAmong (cond c a (best_action b actions xs)) (a ∷ b ∷ actions)
      go true h = inl refl
      go false h = inr h

  gains_best : (a : A) (actions : List A) (xs : List X) → gained weight gain xs (best_action a actions xs) ≡ best_gain weight gain (a ∷ actions) xs
  gains_best a [] xs = omega arith
  gains_best a (b ∷ actions) xs = go (leb (best_gain weight gain (b ∷ actions) xs) (gained weight gain xs a)) refl (gains_best b actions xs)
    where
      rest : ℕ
      rest = best_gain weight gain (b ∷ actions) xs

      go : (c : Bool) → leb (best_gain weight gain (b ∷ actions) xs) (gained weight gain xs a) ≡ c
          → gained weight gain xs (best_action b actions xs) ≡ best_gain weight gain (b ∷ actions) xs
          → gained weight gain xs (cond c a (best_action b actions xs)) ≡ max (gained weight gain xs a) (best_gain weight gain (b ∷ actions) xs)
      go true e h = omega (arith, leb-true _ _ e)
      go false e h = omega (arith, h, leb-false _ _ e)

-- ---- sums over the views

module _ {X V : Type 0} (see : X → V) (same : V → V → Bool) (tests : Tests same) where
  -- for each of some views the sum over those that show it, and these together
  abbrev pub class_sums : (X → ℕ) → List X → List V → ℕ
  class_sums f xs [] = 0
  class_sums f xs (v ∷ vs) = sum_over f (that_show see same v xs) + class_sums f xs vs

  left : (n : ℕ) → 0 + n ≡ n
  left n = omega arith

  right : (n : ℕ) → n + 0 ≡ n
  right n = omega arith

  exchange : (a b c d : ℕ) → a + b + (c + d) ≡ a + c + (b + d)
  exchange a b c d = omega arith

  as_sum : (f : X → ℕ) (xs : List X) → sum_over f xs ≡ over see same tests ◌+◌ 0 left right exchange f xs
  as_sum f [] = refl
  as_sum f (x ∷ xs) = ap (λ z. f x + z) (as_sum f xs)

  as_sums : (f : X → ℕ) (xs : List X) (vs : List V) → class_sums f xs vs ≡ over_views see same tests ◌+◌ 0 left right exchange f xs vs
  as_sums f xs [] = refl
  as_sums f xs (v ∷ vs) = omega (arith, as_sum f (that_show see same v xs), as_sums f xs vs)

  pub views_sum : (f : X → ℕ) (xs : List X) → class_sums f xs (distinct same (map see xs)) ≡ sum_over f xs
  views_sum f xs = as_sums f xs _ ∙ over_all see same tests ◌+◌ 0 left right exchange f xs ∙ sym (as_sum f xs)

  -- ---- what actions gain

  module _ {A : Type 0} (weight : X → ℕ) (gain : A → X → ℕ) where
    -- at a view its action is chosen
    at_view : (choose : V → A) (xs : List X) (v : V) →
        sum_over (λ x. weight x * gain (choose (see x)) x) (that_show see same v xs) ≡ gained weight gain (that_show see same v xs) (choose v)
    at_view choose xs v =
        sum_same (λ x. weight x * gain (choose (see x)) x) (λ x. weight x * gain (choose v) x) (λ x. same v (see x))
        (λ x e. ap (λ u. weight x * gain (choose u) x) (sym (tests.same_to v (see x) e))) xs

    each_most : (actions : List A) (choose : V → A) → ((v : V) → IsAmong (choose v) actions) → (xs : List X) (vs : List V) →
        class_sums (λ x. weight x * gain (choose (see x)) x) xs vs ≤ best_gains see same weight gain actions xs vs
    each_most actions choose i xs [] = omega arith
    each_most actions choose i xs (v ∷ vs) =
        omega (
          arith,
          at_view choose xs v,
          best_is_best weight gain actions (that_show see same v xs) (choose v) (i v),
          each_most actions choose i xs vs,
        )

    each_reached : (a : A) (actions : List A) (xs : List X) (vs : List V) →
        class_sums (λ x. weight x * gain (best_action weight gain a actions (that_show see same (see x) xs)) x) xs vs
        ≡ best_gains see same weight gain (a ∷ actions) xs vs
    each_reached a actions xs [] = refl
    each_reached a actions xs (v ∷ vs) =
        omega (
          arith,
          at_view (λ u. best_action weight gain a actions (that_show see same u xs)) xs v,
          gains_best weight gain a actions (that_show see same v xs),
          each_reached a actions xs vs,
        )

    each_few : (actions : List A) (xs : List X) (vs : List V) → best_gains see same weight gain actions xs vs ≤ length vs * best_gain weight gain actions xs
    each_few actions xs [] = omega arith
    each_few actions xs (v ∷ vs) =
        let g = best_gain weight gain actions xs in
        let one : suc (length vs) * g ≡ g + length vs * g = omega arith in
        subst (λ z. best_gain weight gain actions (that_show see same v xs) + best_gains see same weight gain actions xs vs ≤ z) (sym one)
        (omega (arith, best-filter weight gain actions (λ x. same v (see x)) xs, each_few actions xs vs))

    most_gains : (actions : List A) (xs : List X) (choose : V → A) → ((v : V) → IsAmong (choose v) actions)
        → gain_by see choose weight gain xs ≤ gain_after see same weight gain actions xs
    most_gains actions xs choose i =
        omega (arith, views_sum (λ x. weight x * gain (choose (see x)) x) xs, each_most actions choose i xs (distinct same (map see xs)))

    reached_gains : (actions : List A) (xs : List X) (a : A) → IsAmong a actions → (choose : V → A) × ((v : V) → IsAmong (choose v) actions)
        × (gain_by see choose weight gain xs ≡ gain_after see same weight gain actions xs)
    reached_gains [] xs a h = absurd h
    reached_gains (b ∷ actions) xs a h =
        let choose : V → A = λ v. best_action weight gain b actions (that_show see same v xs) in (
          choose,
          λ v. among_best weight gain b actions (that_show see same v xs),
          sym (views_sum (λ x. weight x * gain (choose (see x)) x) xs) ∙ each_reached b actions xs (distinct same (map see xs)),
        )

    few_gain : (actions : List A) (xs : List X) (n : ℕ) → distinct_count same (map see xs) ≤ n → FewGain see same xs n weight gain actions
    few_gain actions xs n h =
        record {
          few = let g = best_gain weight gain actions xs in omega (arith, each_few actions xs (distinct same (map see xs)), mul-le-mul_right g h);
          most = most_gains actions xs;
          reached = reached_gains actions xs;
          no_less = best_is_least weight gain actions xs _ (λ a i. most_gains actions xs (λ v. a) (λ v. i));
        }

    each_choice : (allowed : A → Bool) (most : ℕ) (xs : List X) → ((a : A) → allowed a ≡ true → gained weight gain xs a ≤ most) →
        (choose : V → A) → ((v : V) → allowed (choose v) ≡ true) → (vs : List V) →
        class_sums (λ x. weight x * gain (choose (see x)) x) xs vs ≤ length vs * most
    each_choice allowed most xs h choose i [] = omega arith
    each_choice allowed most xs h choose i (v ∷ vs) =
        let one : suc (length vs) * most ≡ most + length vs * most = omega arith in
        let less = sum-filter (λ x. weight x * gain (choose v) x) (λ x. same v (see x)) xs in
        subst (λ z. class_sums (λ x. weight x * gain (choose (see x)) x) xs (v ∷ vs) ≤ z) (sym one)
        (omega (arith, at_view choose xs v, less, h (choose v) (i v), each_choice allowed most xs h choose i vs))

pub views_gain_few : (X V A : Type 0) → ViewsGainFew X V A
views_gain_few X V A see same tests xs n h weight gain actions = few_gain see same tests weight gain actions xs n h

pub choices_gain_few : (X V A : Type 0) → ChoicesGainFew X V A
choices_gain_few X V A see same tests xs n h weight gain allowed most each choose i =
    omega (
      arith,
      views_sum see same tests (λ x. weight x * gain (choose (see x)) x) xs,
      each_choice see same tests weight gain allowed most xs each choose i (distinct same (map see xs)),
      mul-le-mul_right most h,
    )

-- The mutual information of start and view is the entropy of the view, and at most the logarithm of the number of views.
use Rattle.std.proofs.Common.{◌≡◌, ℕ, ◌+◌, ◌*◌, ◌^◌, ◌≤◌, List, [], ◌∷◌, length, map, Bool, true, false, refl, sym, ap, ◌∙◌, subst, arith}
use Rattle.std.proofs.Common.{mul-le-mul_right}
use Rattle.std.specs.Prelude.{cond}
use Rattle.std.specs.List.{filter}
use Rattle.std.proofs.Math.Nat.{pow-zero, pow-le-pow_left}
use Rattle.std.proofs.lemmas.Nat.{pow-add}
use Rattle.std.proofs.lemmas.List.{length-map}
use Rattle.fixed_log.specs.Entropy.{starts, own_powers}
use Rattle.leak_bound.specs.Records.{distinct, distinct_count, Tests}
use Rattle.sharp_bound.specs.Guess.{that_show}
use Rattle.gain_bound.specs.Gain.{sum_over}
use Rattle.gain_bound.specs.Information.{product_over, weight_at, view_weights, FewBits, ViewsTellFew}
use Rattle.gain_bound.proofs.Views.{over, over_views, over_all}
use Rattle.gain_bound.proofs.Gain.{class_sums, views_sum}
use Rattle.gain_bound.proofs.Powers.{classes_few}

-- the product of one number to the weights
power_sum : {X : Type 0} (m : ℕ) (weight : X → ℕ) (xs : List X) → product_over (λ x. m ^ weight x) xs ≡ m ^ sum_over weight xs
power_sum m weight [] = sym (pow-zero m)
power_sum m weight (x ∷ xs) = ap (λ z. m ^ weight x * z) (power_sum m weight xs) ∙ sym (pow-add m (weight x) (sum_over weight xs))

-- two numbers that are the same for those that pass have the same products
product_same : {X : Type 0} (f g : X → ℕ) (t : X → Bool) → ((x : X) → t x ≡ true → f x ≡ g x) → (xs : List X)
    → product_over f (filter t xs) ≡ product_over g (filter t xs)
product_same f g t e [] = refl
product_same f g t e (x ∷ xs) = go (t x) refl (product_same f g t e xs)
  where
    go : (b : Bool) → t x ≡ b → product_over f (filter t xs) ≡ product_over g (filter t xs)
        → product_over f (cond b (x ∷ filter t xs) (filter t xs)) ≡ product_over g (cond b (x ∷ filter t xs) (filter t xs))
    go true p h = ap (λ z. z * product_over f (filter t xs)) (e x p) ∙ ap (λ z. g x * z) h
    go false p h = h

module _ {X V : Type 0} (see : X → V) (same : V → V → Bool) (tests : Tests same) where
  left : (n : ℕ) → 1 * n ≡ n
  left n = omega arith

  right : (n : ℕ) → n * 1 ≡ n
  right n = omega arith

  exchange : (a b c d : ℕ) → a * b * (c * d) ≡ a * c * (b * d)
  exchange a b c d = grind arith

  as_product : (f : X → ℕ) (xs : List X) → product_over f xs ≡ over see same tests ◌*◌ 1 left right exchange f xs
  as_product f [] = refl
  as_product f (x ∷ xs) = ap (λ z. f x * z) (as_product f xs)

  module _ (weight : X → ℕ) (xs : List X) where
    -- the weight of those that show the same, to the weight
    abbrev part : X → ℕ
    part x = weight_at see same weight xs (see x) ^ weight x

    at_view : (v : V) → product_over part (that_show see same v xs) ≡ weight_at see same weight xs v ^ weight_at see same weight xs v
    at_view v =
        product_same part (λ x. weight_at see same weight xs v ^ weight x) (λ x. same v (see x))
        (λ x e. ap (λ u. weight_at see same weight xs u ^ weight x) (sym (tests.same_to v (see x) e))) xs
        ∙ power_sum (weight_at see same weight xs v) weight (that_show see same v xs)

    as_own : (vs : List V) → over_views see same tests ◌*◌ 1 left right exchange part xs vs ≡ own_powers (map (weight_at see same weight xs) vs)
    as_own [] = refl
    as_own (v ∷ vs) =
        let m = weight_at see same weight xs v in
        ap (λ z. z * over_views see same tests ◌*◌ 1 left right exchange part xs vs) (sym (as_product part (that_show see same v xs)) ∙ at_view v)
        ∙ ap (λ z. m ^ m * z) (as_own vs)

    is_entropy : product_over part xs ≡ own_powers (view_weights see same weight xs)
    is_entropy = as_product part xs ∙ sym (over_all see same tests ◌*◌ 1 left right exchange part xs) ∙ as_own (distinct same (map see xs))

    sums : (vs : List V) → starts (map (weight_at see same weight xs) vs) ≡ class_sums see same tests weight xs vs
    sums [] = refl
    sums (v ∷ vs) = ap (λ z. weight_at see same weight xs v + z) (sums vs)

    is_whole : starts (view_weights see same weight xs) ≡ sum_over weight xs
    is_whole = sums (distinct same (map see xs)) ∙ views_sum see same tests weight xs

    few_bits : (n : ℕ) → distinct_count same (map see xs) ≤ n → FewBits see same xs n weight
    few_bits n h =
        let ms = view_weights see same weight xs in
        let s = sum_over weight xs in
        let count : length ms ≡ distinct_count same (map see xs) = length-map (distinct same (map see xs)) (weight_at see same weight xs) in
        let some : s ^ s ≤ length ms ^ s * own_powers ms = subst (λ z. z ^ z ≤ length ms ^ z * own_powers ms) is_whole (classes_few ms) in
        let up : length ms ^ s ≤ n ^ s = pow-le-pow_left (omega (arith, h, count)) s in
        let more : length ms ^ s * own_powers ms ≤ n ^ s * own_powers ms = mul-le-mul_right (own_powers ms) up in
        record {
          few = subst (λ z. s ^ s ≤ n ^ s * z) (sym is_entropy) (omega (arith, some, more));
          entropy = is_entropy;
          whole = is_whole;
        }

pub views_tell_few : (X V : Type 0) → ViewsTellFew X V
views_tell_few X V see same tests xs n h weight = few_bits see same tests weight xs n h

-- What a view tells of a start, in bits, whatever the starts weigh; said by whole numbers.
use Rattle.std.specs.Prelude.{◌≡◌, ℕ, ◌*◌, ◌^◌, ◌≤◌, List, [], ◌∷◌, Bool, map}
use Rattle.fixed_log.specs.Entropy.{starts, own_powers}
use Rattle.leak_bound.specs.Records.{distinct, distinct_count, Tests}
use Rattle.sharp_bound.specs.Guess.{that_show}
use Rattle.gain_bound.specs.Gain.{sum_over}

-- the product of a number over the members of a list
abbrev pub product_over : {X : Type 0} → (X → ℕ) → List X → ℕ
product_over f [] = 1
product_over f (x ∷ xs) = f x * product_over f xs

-- the weight of those that show v
abbrev pub weight_at : {X V : Type 0} → (X → V) → (V → V → Bool) → (X → ℕ) → List X → V → ℕ
weight_at see same weight xs v = sum_over weight (that_show see same v xs)

-- that of each different view
abbrev pub view_weights : {X V : Type 0} → (X → V) → (V → V → Bool) → (X → ℕ) → List X → List ℕ
view_weights see same weight xs = map (weight_at see same weight xs) (distinct same (map see xs))

-- A start is drawn, each as likely as its weight w is of the sum S of all, and its view is told. That tells of the start, in
-- bits, the mutual information I: the sum over the starts of w / S * log2 (S / m), where m is the weight of those that show
-- the same. So S ^ S is 2 ^ (S * I) times the product of m ^ w, and `few` says that I is at most log2 n.
pub record FewBits {X V : Type 0} (see : X → V) (same : V → V → Bool) (xs : List X) (n : ℕ) (weight : X → ℕ) : Type 0 where
  pub few : sum_over weight xs ^ sum_over weight xs
      ≤ n ^ sum_over weight xs * product_over (λ x. weight_at see same weight xs (see x) ^ weight x) xs
  -- it is the entropy of the view, since that product is the one of m ^ m over the different views
  pub entropy : product_over (λ x. weight_at see same weight xs (see x) ^ weight x) xs ≡ own_powers (view_weights see same weight xs)
  pub whole : starts (view_weights see same weight xs) ≡ sum_over weight xs

abbrev pub ViewsTellFew : Type 0 → Type 0 → Type 0
ViewsTellFew X V =
    (see : X → V) (same : V → V → Bool) → Tests same → (xs : List X) (n : ℕ) → distinct_count same (map see xs) ≤ n →
    (weight : X → ℕ) → FewBits see same xs n weight

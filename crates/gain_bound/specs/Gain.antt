-- What a view of a start is worth to one who chooses an action, whatever the starts weigh and whatever actions gain.
use Rattle.std.specs.Prelude.{◌≡◌, ℕ, ◌+◌, ◌*◌, ◌≤◌, List, [], ◌∷◌, Bool, true, max, map}
use Rattle.leak_bound.specs.Records.{distinct, distinct_count, Tests}
use Rattle.sharp_count.specs.Lists.{IsAmong}
use Rattle.sharp_bound.specs.Guess.{that_show}

-- the sum of a number over the members of a list
abbrev pub sum_over : {X : Type 0} → (X → ℕ) → List X → ℕ
sum_over f [] = 0
sum_over f (x ∷ xs) = f x + sum_over f xs

-- Starts have weights, and an action has a gain at each start: what it gains over a list of starts
abbrev pub gained : {X A : Type 0} → (X → ℕ) → (A → X → ℕ) → List X → A → ℕ
gained weight gain xs a = sum_over (λ x. weight x * gain a x) xs

-- what the best of some actions gains
abbrev pub best_gain : {X A : Type 0} → (X → ℕ) → (A → X → ℕ) → List A → List X → ℕ
best_gain weight gain [] xs = 0
best_gain weight gain (a ∷ actions) xs = max (gained weight gain xs a) (best_gain weight gain actions xs)

-- for each of some views, what the best action gains over the starts that show it; the sum of these
abbrev pub best_gains : {X V A : Type 0} → (X → V) → (V → V → Bool) → (X → ℕ) → (A → X → ℕ) → List A → List X → List V → ℕ
best_gains see same weight gain actions xs [] = 0
best_gains see same weight gain actions xs (v ∷ vs) =
    best_gain weight gain actions (that_show see same v xs) + best_gains see same weight gain actions xs vs

-- what the best actions gain for one who has seen the view: the sum over all different views
abbrev pub gain_after : {X V A : Type 0} → (X → V) → (V → V → Bool) → (X → ℕ) → (A → X → ℕ) → List A → List X → ℕ
gain_after see same weight gain actions xs = best_gains see same weight gain actions xs (distinct same (map see xs))

-- what one gains who chooses the action by the view
abbrev pub gain_by : {X V A : Type 0} → (X → V) → (V → A) → (X → ℕ) → (A → X → ℕ) → List X → ℕ
gain_by see choose weight gain xs = sum_over (λ x. weight x * gain (choose (see x)) x) xs

-- A view multiplies what the best of some actions gains by at most n, and no way to choose by it gains more; what it gains
-- is what one way to choose gains, and no less than without the view.
pub record FewGain {X V A : Type 0} (see : X → V) (same : V → V → Bool) (xs : List X) (n : ℕ) (weight : X → ℕ) (gain : A → X → ℕ) (actions : List A) :
    Type 0 where
  pub few : gain_after see same weight gain actions xs ≤ n * best_gain weight gain actions xs
  pub most : (choose : V → A) → ((v : V) → IsAmong (choose v) actions)
      → gain_by see choose weight gain xs ≤ gain_after see same weight gain actions xs
  pub reached : (a : A) → IsAmong a actions
      → (choose : V → A) × ((v : V) → IsAmong (choose v) actions) × (gain_by see choose weight gain xs ≡ gain_after see same weight gain actions xs)
  pub no_less : best_gain weight gain actions xs ≤ gain_after see same weight gain actions xs

-- n is any number that is not below the number of different views; weights, gains and actions are any
abbrev pub ViewsGainFew : Type 0 → Type 0 → Type 0 → Type 0
ViewsGainFew X V A =
    (see : X → V) (same : V → V → Bool) → Tests same → (xs : List X) (n : ℕ) → distinct_count same (map see xs) ≤ n →
    (weight : X → ℕ) (gain : A → X → ℕ) (actions : List A) → FewGain see same xs n weight gain actions

-- The same of any actions that are allowed, however many: if none of them gains more than most without the view, no choice of
-- such by the view gains more than n times that.
abbrev pub ChoicesGainFew : Type 0 → Type 0 → Type 0 → Type 0
ChoicesGainFew X V A =
    (see : X → V) (same : V → V → Bool) → Tests same → (xs : List X) (n : ℕ) → distinct_count same (map see xs) ≤ n →
    (weight : X → ℕ) (gain : A → X → ℕ) (allowed : A → Bool) (most : ℕ) → ((a : A) → allowed a ≡ true → gained weight gain xs a ≤ most) →
    (choose : V → A) → ((v : V) → allowed (choose v) ≡ true) → gain_by see choose weight gain xs ≤ n * most

-- n numbers that show themselves.
use Rattle.std.proofs.Common.{◌≡◌, ℕ, zero, suc, ◌+◌, ◌*◌, ◌^◌, ◌<◌, ◌≤◌, List, [], ◌∷◌, length, map, Bool, true, false, refl, sym, ap, ◌∙◌, subst, inl, inr}
use Rattle.std.proofs.Common.{arith, eq-eqb}
use Rattle.std.specs.Prelude.{cond, eqb, ltb, not}
use Rattle.std.specs.List.{filter}
use Rattle.std.proofs.lemmas.Bool.{eqb-true, eqb-false, lt-ltb, ltb-true, ltb-false}
use Rattle.std.proofs.lemmas.List.{length-map}
use Rattle.leak_bound.specs.Records.{distinct, distinct_count, Tests}
use Rattle.sharp_count.specs.Lists.{IsAmong}
use Rattle.gain_bound.specs.Gain.{sum_over, gained, best_gain, gain_after, gain_by}
use Rattle.gain_bound.specs.Information.{product_over, weight_at}
use Rattle.gain_bound.specs.Reached.{is_right, itself, even, WorthReached}
use Rattle.gain_bound.proofs.Gain.{views_gain_few, best_is_best, best_is_least}

-- n - 1, .., 0
abbrev down : ℕ → List ℕ
down zero = []
down (suc n) = n ∷ down n

tests : Tests eqb
tests = record { same_from = λ v w e. eq-eqb v w e; same_to = λ v w e. eqb-true v w e }

-- ---- the weight of those that show a number

absent : (n v : ℕ) → n ≤ v → sum_over even (filter (λ x. eqb v x) (down n)) ≡ 0
absent zero v h = refl
absent (suc n) v h = go (eqb v n) refl (absent n v (omega (arith, h)))
  where
    go : (b : Bool) → eqb v n ≡ b → sum_over even (filter (λ x. eqb v x) (down n)) ≡ 0
        → sum_over even (cond b (n ∷ filter (λ x. eqb v x) (down n)) (filter (λ x. eqb v x) (down n))) ≡ 0
    go true e r = absurd (omega (arith, h, eqb-true v n e))
    go false e r = r

present : (n v : ℕ) → v < n → sum_over even (filter (λ x. eqb v x) (down n)) ≡ 1
present zero v h = absurd (omega (arith, h))
present (suc n) v h = go (eqb v n) refl (λ lt. present n v lt)
  where
    go : (b : Bool) → eqb v n ≡ b → (v < n → sum_over even (filter (λ x. eqb v x) (down n)) ≡ 1)
        → sum_over even (cond b (n ∷ filter (λ x. eqb v x) (down n)) (filter (λ x. eqb v x) (down n))) ≡ 1
    go true e r = omega (arith, absent n v (omega (arith, eqb-true v n e)))
    go false e r = r (omega (arith, h, eqb-false v n e))

-- a guess gains the weight of those that show it
guess_gains : (a : ℕ) (xs : List ℕ) → gained even is_right xs a ≡ sum_over even (filter (λ x. eqb a x) xs)
guess_gains a [] = refl
guess_gains a (x ∷ xs) = go (eqb a x) (guess_gains a xs)
  where
    go : (b : Bool) → gained even is_right xs a ≡ sum_over even (filter (λ y. eqb a y) xs)
        → 1 * cond b 1 0 + gained even is_right xs a ≡ sum_over even (cond b (x ∷ filter (λ y. eqb a y) xs) (filter (λ y. eqb a y) xs))
    go true h = omega (arith, h)
    go false h = omega (arith, h)

-- ---- the list

in_all : (n v : ℕ) → v < n → IsAmong v (down n)
in_all zero v h = absurd (omega (arith, h))
in_all (suc n) v h = go (eqb v n) refl (λ lt. in_all n v lt)
  where
    go : (b : Bool) → eqb v n ≡ b → (v < n → IsAmong v (down n)) → IsAmong v (n ∷ down n)
    go true e r = inl (eqb-true v n e)
    go false e r = inr (r (omega (arith, h, eqb-false v n e)))

total : (n : ℕ) → sum_over even (down n) ≡ n
total zero = refl
total (suc n) = omega (arith, total n)

few_distinct : (vs : List ℕ) → distinct_count eqb vs ≤ length vs
few_distinct [] = omega arith
few_distinct (v ∷ vs) = omega (arith, shorter (λ w. not (eqb v w)) (distinct eqb vs), few_distinct vs)
  where
    shorter : (t : ℕ → Bool) (ws : List ℕ) → length (filter t ws) ≤ length ws
    shorter t [] = omega arith
    shorter t (w ∷ ws) = go (t w) (shorter t ws)
      where
        go : (b : Bool) → length (filter t ws) ≤ length ws → length (cond b (w ∷ filter t ws) (filter t ws)) ≤ suc (length ws)
        go true h = omega (arith, h)
        go false h = omega (arith, h)

length-down : (n : ℕ) → length (down n) ≡ n
length-down zero = refl
length-down (suc n) = omega (arith, length-down n)

-- who has seen the view names what it shows
named_by_view : (n k : ℕ) → k ≤ n → gain_by itself (λ v. cond (ltb v n) v 0) even is_right (down k) ≡ k
named_by_view n zero h = refl
named_by_view n (suc k) h =
    let below = lt-ltb k n (omega (arith, h)) in
    let here : is_right (cond (ltb k n) k 0) k ≡ 1 = ap (λ b. is_right (cond b k 0) k) below ∙ ap (λ b. cond {A = ℕ} b 1 0) (eq-eqb k k refl) in
    omega (arith, here, named_by_view n k (omega (arith, h)))

all_one : (n k : ℕ) → k ≤ n → product_over (λ x. weight_at itself eqb even (down n) x ^ even x) (down k) ≡ 1
all_one n zero h = refl
all_one n (suc k) h =
    let one = present n k (omega (arith, h)) in
    let here : weight_at itself eqb even (down n) k ^ 1 ≡ 1 = ap (λ z. z ^ 1) one ∙ refl in
    let rest = all_one n k (omega (arith, h)) in
    ap (λ z. z * product_over (λ x. weight_at itself eqb even (down n) x ^ even x) (down k)) here ∙ omega (arith, rest)

-- no guess gains more than 1, and one gains that
one_guess : (n : ℕ) → 0 < n → best_gain even is_right (down n) (down n) ≡ 1
one_guess n some =
    let low = best_is_best even is_right (down n) (down n) 0 (in_all n 0 some) in
    let high = best_is_least even is_right (down n) (down n) 1 (λ a i. omega (arith, guess_gains a (down n), at_most_one a)) in
    omega (arith, low, high, guess_gains 0 (down n), present n 0 some)
  where
    at_most_one : (a : ℕ) → sum_over even (filter (λ x. eqb a x) (down n)) ≤ 1
    at_most_one a = go (ltb a n) refl
      where
        go : (b : Bool) → ltb a n ≡ b → sum_over even (filter (λ x. eqb a x) (down n)) ≤ 1
        go true e = omega (arith, present n a (ltb-true a n e))
        go false e = omega (arith, absent n a (ltb-false a n e))

among : (n : ℕ) → 0 < n → (v : ℕ) → IsAmong (cond (ltb v n) v 0) (down n)
among n some v = go (ltb v n) refl
  where
    go : (b : Bool) → ltb v n ≡ b → IsAmong (cond b v 0) (down n)
    go true e = in_all n v (ltb-true v n e)
    go false e = in_all n 0 some

pub worth_reached : WorthReached
worth_reached n some =
    let xs = down n in
    let d = distinct_count eqb (map itself xs) in
    let gains = views_gain_few ℕ ℕ ℕ itself eqb tests xs d (omega arith) even is_right xs in
    let by = gains.most (λ v. cond (ltb v n) v 0) (among n some) in
    let names = named_by_view n n (omega arith) in
    let one = one_guess n some in
    let few : gain_after itself eqb even is_right xs xs ≤ d * 1 = subst (λ z. gain_after itself eqb even is_right xs xs ≤ d * z) one gains.few in
    let long : length (map itself xs) ≡ n = length-map xs itself ∙ length-down n in
    let shown = few_distinct (map itself xs) in
    let whole = total n in
    let ones = all_one n n (omega arith) in (
      xs,
      record {
        views = omega (arith, by, names, few, long, shown);
        before = one;
        after = omega (arith, by, names, few, long, shown);
        bits = ap (λ z. z ^ z) whole ∙ sym (ap (λ z. n ^ z * product_over (λ x. weight_at itself eqb even xs x ^ even x) xs) whole
            ∙ ap (λ z. n ^ n * z) ones ∙ omega arith);
      },
    )

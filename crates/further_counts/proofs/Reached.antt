-- A guess that is right as often as the count allows.
use Rattle.std.proofs.Common.{◌≡◌, ℕ, zero, suc, ◌<◌, ◌≤◌, List, [], ◌∷◌, length, map, Bool, true, false, refl, sym, ap, ◌∙◌, subst, arith, eq-eqb}
use Rattle.std.specs.Prelude.{cond, eqb, not}
use Rattle.std.specs.List.{filter}
use Rattle.std.proofs.lemmas.Bool.{eqb-true, eqb-false}
use Rattle.std.proofs.lemmas.List.{map-id}
use Rattle.leak_bound.specs.Records.{distinct, Tests}
use Rattle.sharp_bound.specs.Guess.{greatest, best_sum}
use Rattle.further_counts.specs.Reached.{GuessReached}
use Rattle.sharp_bound.proofs.Guess.{few_shown}

down : ℕ → List ℕ
down zero = []
down (suc n) = n ∷ down n

tests : Tests eqb
tests = record { same_from = λ v w e. eq-eqb v w e; same_to = λ v w e. eqb-true v w e }

unseen : (n v : ℕ) → n ≤ v → filter (λ y. not (eqb v y)) (down n) ≡ down n
unfolding down
unseen zero v h = refl
unseen (suc n) v h = go (eqb v n) refl (unseen n v (omega arith))
  where
    go : (b : Bool) → eqb v n ≡ b → filter (λ y. not (eqb v y)) (down n) ≡ down n
        → cond (not b) (n ∷ filter (λ y. not (eqb v y)) (down n)) (filter (λ y. not (eqb v y)) (down n)) ≡ n ∷ down n
    go true e r = absurd (omega (arith, eqb-true v n e))
    go false e r = ap (λ z. n ∷ z) r

all_distinct : (n : ℕ) → distinct eqb (down n) ≡ down n
unfolding down
all_distinct zero = refl
all_distinct (suc n) = ap (λ z. n ∷ filter (λ y. not (eqb n y)) z) (all_distinct n) ∙ ap (λ z. n ∷ z) (unseen n n (omega arith))

all_shown : (n : ℕ) → distinct eqb (map (λ x. x) (down n)) ≡ down n
all_shown n = ap (λ z. distinct eqb z) (map-id (down n)) ∙ all_distinct n

length-down : (n : ℕ) → length (down n) ≡ n
unfolding down
length-down zero = refl
length-down (suc n) = ap suc (length-down n)

light : (n : ℕ) → greatest (λ x. 1) (down n) ≤ 1
unfolding down
light zero = omega arith
light (suc n) = omega (arith, light n)

found : (n v : ℕ) → v < n → 1 ≤ greatest (λ x. 1) (filter (λ x. eqb v x) (down n))
unfolding down
found zero v h = absurd (omega arith)
found (suc n) v h = go (eqb v n) refl (λ lt. found n v lt)
  where
    go : (b : Bool) → eqb v n ≡ b → (v < n → 1 ≤ greatest (λ x. 1) (filter (λ x. eqb v x) (down n)))
        → 1 ≤ greatest (λ x. 1) (cond b (n ∷ filter (λ x. eqb v x) (down n)) (filter (λ x. eqb v x) (down n)))
    go true e r = omega arith
    go false e r = let ne = eqb-false v n e in r (omega (arith, ne))

each_found : (n m : ℕ) → m ≤ n → m ≤ best_sum (λ x. x) eqb (λ x. 1) (down n) (down m)
unfolding down
each_found n zero h = omega arith
each_found n (suc m) h = omega (arith, found n m (omega arith), each_found n m (omega arith))

heavy : (n : ℕ) → 0 < n → greatest (λ x. 1) (down n) ≡ 1
unfolding down
heavy zero h = absurd (omega arith)
heavy (suc n) h = omega (arith, light n)

pub guess_reached : GuessReached
guess_reached n some = (
  down n,
  few_shown (λ x. x) eqb tests (down n) n (omega (arith, ap length (all_shown n), length-down n)),
  heavy n some,
  subst (λ z. n ≤ best_sum (λ x. x) eqb (λ x. 1) (down n) z) (sym (all_shown n)) (each_found n n (omega arith)),
)

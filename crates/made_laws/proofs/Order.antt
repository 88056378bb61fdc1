-- Without a header the labels make a lattice.
use Rattle.std.proofs.Common.{◌≡◌, ◌<◌, refl, sym, ℕ, zero, suc, List, [], ◌∷◌, inl, inr, arith}
use Rattle.label_lattice.specs.declared.label.Label.{Label}
use Rattle.label_lattice.specs.Chains.{IsWritten, Chain, none, more, IsSound, IsJoin}

abbrev pairs : List (Label × Label)
pairs = (record { number = 0 }, record { number = 1 }) ∷ []

-- a chain to 0 begins there, and one from 1 ends there
written : (a b : ℕ) → IsWritten pairs a b → (a ≡ 0) × (b ≡ 1)
written a b (inl h) = (sym h.0, sym h.1)
written a b (inr h) = absurd h

from_one : (a c : ℕ) → Chain pairs a c → a ≡ 1 → c ≡ 1
from_one a c none e = e
from_one a c (more {b} w k) e = let h = (written a b w).0 in absurd (omega (arith, e, h))

up : Chain pairs 0 1
up = more (inl (refl, refl)) none

pub two_sound : IsSound 2 (Chain pairs)
two_sound = record {
  few = omega arith;
  no_cycle = λ a b l h k. let e = from_one b a k.1 (omega (arith, l, h)) in absurd (omega (arith, e, l, h));
  one_lowest = λ a b l h k. lowest a b l h k.1;
  joined = λ a b l h k. no_join a b l h k;
}
  where
    lowest : (a b : ℕ) → a < b → b < 2 → ((c : ℕ) → c < 2 → Chain pairs c b → c ≡ b) → ⊥
    lowest a zero l h k = absurd (omega (arith, l))
    lowest a (suc zero) l h k = let e = k 0 (omega arith) up in absurd (omega (arith, e))
    lowest a (suc (suc b)) l h k = absurd (omega (arith, h))

    joins : IsJoin 2 (Chain pairs) 0 1 1
    joins = record { left = up; right = none; least = λ d h x y. y }

    no_join : (a b : ℕ) → a < b → b < 2 → ((c : ℕ) → c < 2 → IsJoin 2 (Chain pairs) a b c → ⊥) → ⊥
    no_join a zero l h k = absurd (omega (arith, l))
    no_join zero (suc zero) l h k = k 1 (omega arith) joins
    no_join (suc a) (suc zero) l h k = absurd (omega (arith, l))
    no_join a (suc (suc b)) l h k = absurd (omega (arith, h))

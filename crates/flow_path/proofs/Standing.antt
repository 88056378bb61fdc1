-- Where a chain stands among others.
use Rattle.std.proofs.Common.{ℕ, zero, suc, ◌+◌, ◌<◌, ◌≤◌, refl, sym, subst, List, [], ◌∷◌, length, drop, get_or, arith}
use Rattle.std.proofs.lemmas.List.{drop_all, drop_more}
use Rattle.label_lattice.specs.Order.{Order}
use Rattle.flow_path.specs.declared.origins.Origin.{Origin}
use Rattle.flow_path.specs.Ranks.{IsBefore, IsPlace}

-- a place is within the list
pub place_within : (o : Order) (x : Origin) (ws : List Origin) (i : ℕ) → IsPlace o x ws i → i ≤ length ws
place_within o x [] i h = omega (arith, h)
place_within o x (w ∷ ws) zero h = omega arith
place_within o x (w ∷ ws) (suc i) h = let q = place_within o x ws i h.1 in omega (arith, q)

-- the next place
pub place_goes : (o : Order) (x : Origin) (ws : List Origin) (i k : ℕ) → (w : Origin) → i < length ws → (IsBefore o x (get_or ws i w) → ⊥)
    → IsPlace o x (drop (i + 1) ws) k → IsPlace o x (drop i ws) (suc k)
place_goes o x ws i k w l h p = subst (λ z. IsPlace o x z (suc k)) (sym (drop_more ws i w l)) (h, p)

pub place_here : (o : Order) (x : Origin) (ws : List Origin) (i : ℕ) (w : Origin) → i < length ws → IsBefore o x (get_or ws i w) → IsPlace o x (drop i ws) 0
place_here o x ws i w l h = subst (λ z. IsPlace o x z 0) (sym (drop_more ws i w l)) h

pub place_last : (o : Order) (x : Origin) (ws : List Origin) (i : ℕ) → length ws ≤ i → IsPlace o x (drop i ws) 0
place_last o x ws i l = subst (λ z. IsPlace o x z 0) (sym (drop_all i ws l)) refl

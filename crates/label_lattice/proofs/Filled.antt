-- Tables that are filled from the front.
use Rattle.std.proofs.Common.{◌≡◌, ◌∙◌, ℕ, ◌+◌, ◌-◌, ◌<◌, List, [], ◌∷◌, ◌++◌, length, drop, set, get_or, ap, ap₂, sym, subst, ⊎_elim, arith}
use Rattle.std.specs.Prelude.{replicate}
use Rattle.std.proofs.lemmas.Bool.{cases_eq}
use Rattle.std.proofs.lemmas.List.{get_or-set_same, get_or-set_other, drop-replicate}
use Rattle.label_lattice.specs.Order.{row}

pub fill_that : (P : ℕ → ℕ → Type 0) (xs : List ℕ) (i v : ℕ) → i < length xs → ((k : ℕ) → k < i → P k (get_or xs k 0)) → P i v → (k : ℕ) → k < i + 1
    → P k (get_or (set xs i v) k 0)
fill_that P xs i v l f p k h = ⊎_elim
    (λ (e : k ≡ i). subst (λ (z : ℕ). P z (get_or (set xs i v) z 0)) (sym e) (subst (P i) (sym (get_or-set_same xs i v 0 l)) p))
    (λ (n : k ≡ i → ⊥). subst (P k) (sym (get_or-set_other xs i k v 0 n)) (f k (omega (arith, h, n)))) (cases_eq k i)

-- the names, and the first again up to the room's end
pub filled_front : (names new : List (List ℕ)) (x : List ℕ) → 0 < length names → x ≡ get_or names 0 x → new ≡ names
    → new ++ drop (length names) (replicate row x) ≡ names ++ replicate (row - length names) (get_or names 0 [])
filled_front [] new x l h e = absurd (omega arith)
filled_front (n ∷ ns) new x l h e =
    ap₂ (λ (a b : List (List ℕ)). a ++ b) e (drop-replicate (length (n ∷ ns)) row x ∙ ap (λ (y : List ℕ). replicate (row - length (n ∷ ns)) y) h)

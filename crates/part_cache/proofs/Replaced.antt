-- What a rule of replacement leaves in a set, and what a look back into the history says of it.
use Rattle.std.proofs.Common.{◌≡◌, ℕ, zero, suc, ◌<◌, ◌≤◌, List, [], ◌∷◌, length, take, Bool, true, false, refl, sym, ap, ◌∙◌, arith, length-take}
use Rattle.std.specs.Prelude.{not, cond, eqb, ◌||◌}
use Rattle.std.specs.List.{filter, list_any}
use Rattle.part_cache.specs.declared.replacement.Replacement.{Replacement}
use Rattle.part_cache.specs.declared.replacement.Replacement.TheVariants.{LeastRecent, FirstCome}
use Rattle.part_cache.specs.History.{came, is_held, row_of}
use Rattle.part_cache.specs.Ways.{absent, to_front, replaced}
use Rattle.part_cache.proofs.Near.{near_is, front_is, any_near}

take_within : (n : ℕ) (xs : List ℕ) → take n (take (suc n) xs) ≡ take n xs
take_within zero xs = refl
take_within (suc n) [] = refl
take_within (suc n) (x ∷ xs) = ap (λ t. x ∷ t) (take_within n xs)

-- of what is behind a new tag no more counts than there are ways
pub take_front : (ways tag : ℕ) (xs : List ℕ) → take ways (tag ∷ xs) ≡ take ways (tag ∷ take ways xs)
take_front zero tag xs = refl
take_front (suc n) tag xs = ap (λ t. tag ∷ t) (sym (take_within n xs))

-- the latest touch is one of the row that earlier ones left
pub row_front : (r : Replacement) (ways tag : ℕ) (back : List ℕ) → 0 < ways → row_of r ways (tag ∷ back) ≡ replaced r ways tag (row_of r ways back)
row_front LeastRecent ways tag back some = near_is ways (tag ∷ back) ∙ front_is ways tag back some ∙ ap (to_front ways tag) (sym (near_is ways back))
row_front FirstCome ways tag back some = go (list_any (eqb tag) (take ways (came ways back)))
  where
    go : (b : Bool) → take ways (cond b (came ways back) (tag ∷ came ways back))
        ≡ cond b (take ways (came ways back)) (take ways (tag ∷ take ways (came ways back)))
    go true = refl
    go false = take_front ways tag (came ways back)

-- nothing is left of no touches
pub row_none : (r : Replacement) (ways : ℕ) → row_of r ways [] ≡ []
row_none LeastRecent ways = refl
row_none FirstCome zero = refl
row_none FirstCome (suc n) = refl

-- what is held is in the row
pub any_held : (r : Replacement) (ways tag : ℕ) (back : List ℕ) → list_any (eqb tag) (row_of r ways back) ≡ is_held r ways back tag
any_held LeastRecent ways tag back = any_near ways tag back
any_held FirstCome ways tag back = refl

pub length-replaced : (r : Replacement) (ways tag : ℕ) (row : List ℕ) → length row ≤ ways → length (replaced r ways tag row) ≤ ways
length-replaced LeastRecent ways tag row few = omega (arith, length-take ways (tag ∷ filter (λ y. not (eqb tag y)) row))
length-replaced FirstCome ways tag row few = go (list_any (eqb tag) row)
  where
    go : (b : Bool) → length (cond b row (take ways (tag ∷ row))) ≤ ways
    go true = few
    go false = omega (arith, length-take ways (tag ∷ row))

others : (tag : ℕ) (row : List ℕ) → absent tag row → filter (λ y. not (eqb tag y)) row ≡ row
others tag [] none = refl
others tag (x ∷ row) none = go (eqb tag x) none (others tag row)
  where
    go : (b : Bool) → (b || list_any (eqb tag) row) ≡ false → (absent tag row → filter (λ y. not (eqb tag y)) row ≡ row)
        → cond (not b) (x ∷ filter (λ y. not (eqb tag y)) row) (filter (λ y. not (eqb tag y)) row) ≡ x ∷ row
    go true e rest = absurd cc
    go false e rest = ap (λ t. x ∷ t) (rest e)

-- where a set does not hold the tag, both rules bring it to the front
pub come_is : (ways tag : ℕ) (row : List ℕ) → absent tag row → to_front ways tag row ≡ replaced FirstCome ways tag row
come_is ways tag row none =
    ap (λ xs. take ways (tag ∷ xs)) (others tag row none) ∙ ap (λ b. cond b row (take ways (tag ∷ row))) (sym none)

-- where it does, the rule of the first that came changes nothing
pub stay_is : (ways tag : ℕ) (row : List ℕ) → list_any (eqb tag) row ≡ true → row ≡ replaced FirstCome ways tag row
stay_is ways tag row some = ap (λ b. cond b row (take ways (tag ∷ row))) (sym some)

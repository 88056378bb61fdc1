-- The last operand but one.
use Rattle.std.proofs.Common.{◌≡◌, ◌≤◌, ◌-◌, ℕ, List, [], ◌∷◌, length, get_or, ap, ◌∙◌, refl, arith}
use Rattle.std.specs.Prelude.{ℤ, reverse}
use Rattle.std.proofs.lemmas.List.{get_or-reverse, length-reverse}
use Rattle.label_code.specs.Machine.{first, rest}

second : (ys : List ℤ) (d : ℤ) → 2 ≤ length ys → first (rest ys) ≡ get_or ys 1 d
second [] d h = absurd (omega (arith, h))
second (y ∷ []) d h = absurd (omega (arith, h))
second (y ∷ z ∷ zs) d h = refl

less_two : (n : ℕ) → 2 ≤ n → n - 1 - 1 ≡ n - 2
less_two n h = omega (arith, h)

pub second_last : (xs : List ℤ) (d : ℤ) → 2 ≤ length xs → first (rest (reverse xs)) ≡ get_or xs (length xs - 2) d
second_last xs d h =
    second (reverse xs) d (let e = length-reverse xs in omega (arith, h, e))
    ∙ (get_or-reverse xs 1 d (omega (arith, h)) ∙ ap (λ k. get_or xs k d) (less_two (length xs) h))

-- Lists by their items.
use Rattle.std.proofs.Common.{◌≡◌, ℕ, zero, suc, ◌<◌, refl, ap, ◌∙◌, List, [], ◌∷◌, ◌++◌, length, get_or, arith}
use Rattle.std.proofs.Math.Seq.{get_or-append_seam}

pub append_one : {A : Type 0} (xs : List A) (y : A) (zs : List A) → (xs ++ y ∷ []) ++ zs ≡ xs ++ (y ∷ zs)
append_one [] y zs = refl
append_one (x ∷ xs) y zs = ap (λ z. x ∷ z) (append_one xs y zs)

pub get_same : {A : Type 0} (xs : List A) (i : ℕ) (d e : A) → i < length xs → get_or xs i d ≡ get_or xs i e
get_same [] i d e h = absurd (omega (arith, h))
get_same (x ∷ xs) zero d e h = refl
get_same (x ∷ xs) (suc i) d e h = get_same xs i d e (omega (arith, h))

pub get_before : {A : Type 0} (xs : List A) (x : A) (i : ℕ) (d : A) → i < length xs → get_or (xs ++ x ∷ []) i d ≡ get_or xs i d
get_before [] x i d h = absurd (omega (arith, h))
get_before (y ∷ xs) x zero d h = refl
get_before (y ∷ xs) x (suc i) d h = get_before xs x i d (omega (arith, h))

pub get_end : {A : Type 0} (xs : List A) (x : A) (i : ℕ) (d : A) → i ≡ length xs → get_or (xs ++ x ∷ []) i d ≡ x
get_end xs x i d e = ap (λ z. get_or (xs ++ x ∷ []) z d) e ∙ get_or-append_seam xs x [] d

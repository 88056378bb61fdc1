-- Which bytes stand in names and numbers, and texts that are split at a byte.
use Rattle.std.proofs.Common.{◌≡◌, ℕ, suc, ◌+◌, ◌%◌, ◌<◌, ◌^◌, List, [], ◌∷◌, ◌++◌, refl, sym, ap, ◌∙◌, subst, arith, ℤ}
use Rattle.std.specs.Prelude.{true, false, pos, negsuc, decimal}
use Rattle.std.specs.Fmt.{signed_decimal}
use Rattle.std.specs.Int.Signed.{mag}
use Rattle.std.proofs.lemmas.Fmt.{decimal_by_steps}
use Rattle.std.proofs.lemmas.Bool.{both_ways}
use Rattle.label_lattice.specs.Names.{Each, is_name_byte}

-- a byte that stands nowhere in a text
abbrev pub Free : ℕ → List ℕ → Type 0
Free c [] = Unit {0}
Free c (x ∷ xs) = (x ≡ c → ⊥) × Free c xs

pub free-append : (c : ℕ) (xs ys : List ℕ) → Free c xs → Free c ys → Free c (xs ++ ys)
free-append c [] ys f g = g
free-append c (x ∷ xs) ys f g = (f.0, free-append c xs ys f.1 g)

-- a byte that is no digit
pub free-decimal : (c n : ℕ) → n < 2 ^ 64 → ((d : ℕ) → d < 10 → 48 + d ≡ c → ⊥) → Free c (decimal n)
free-decimal c n h without =
    decimal_by_steps (λ m ds. Free c ds) (λ m l. (without m l, tt))
    (λ m ds l f. free-append c ds ((48 + m % 10) ∷ []) f (without (m % 10) (omega arith), tt)) n h

pub free-signed : (c : ℕ) (z : ℤ) → mag z < 2 ^ 63 → (45 ≡ c → ⊥) → ((d : ℕ) → d < 10 → 48 + d ≡ c → ⊥) → Free c (signed_decimal z)
free-signed c (pos n) h sign without = free-decimal c n (omega (arith, h)) without
free-signed c (negsuc n) h sign without = (sign, free-decimal c (suc n) (omega (arith, h)) without)

-- a byte that no name has
pub free-name : (c : ℕ) (xs : List ℕ) → is_name_byte c ≡ false → Each is_name_byte xs → Free c xs
free-name c [] without e = tt
free-name c (x ∷ xs) without e = (λ q. both_ways (is_name_byte c) without (subst (λ z. is_name_byte z ≡ true) q e.0), free-name c xs without e.1)

abbrev head_of : {A : Type 0} → A → List A → A
head_of d [] = d
head_of d (x ∷ xs) = x

abbrev tail_of : {A : Type 0} → List A → List A
tail_of [] = []
tail_of (x ∷ xs) = xs

pub heads : {A : Type 0} (x y : A) (xs ys : List A) → x ∷ xs ≡ y ∷ ys → x ≡ y
heads x y xs ys e = ap (head_of x) e

pub tails : {A : Type 0} (x y : A) (xs ys : List A) → x ∷ xs ≡ y ∷ ys → xs ≡ ys
tails x y xs ys e = ap tail_of e

-- texts are split at the first such byte
pub split : (d : ℕ) (xs ys xs' ys' : List ℕ) → Free d xs → Free d xs' → xs ++ d ∷ ys ≡ xs' ++ d ∷ ys' → (xs ≡ xs') × (ys ≡ ys')
split d [] ys [] ys' f f' e = (refl, tails d d ys ys' e)
split d [] ys (x ∷ xs') ys' f f' e = absurd (f'.0 (sym (heads d x ys (xs' ++ d ∷ ys') e)))
split d (x ∷ xs) ys [] ys' f f' e = absurd (f.0 (heads x d (xs ++ d ∷ ys) ys' e))
split d (x ∷ xs) ys (x' ∷ xs') ys' f f' e =
    let r = split d xs ys xs' ys' f.1 f'.1 (tails x x' (xs ++ d ∷ ys) (xs' ++ d ∷ ys') e) in
    (ap (λ z. z ∷ xs) (heads x x' (xs ++ d ∷ ys) (xs' ++ d ∷ ys') e) ∙ ap (λ z. x' ∷ z) r.0, r.1)

-- a text no the byte is none with it
pub no_split : (d : ℕ) (xs xs' ys' : List ℕ) → Free d xs → xs ≡ xs' ++ d ∷ ys' → ⊥
no_split d [] [] ys' f e = absurd cc
no_split d [] (x ∷ xs') ys' f e = absurd cc
no_split d (x ∷ xs) [] ys' f e = f.0 (heads x d xs ys' e)
no_split d (x ∷ xs) (x' ∷ xs') ys' f e = no_split d xs xs' ys' f.1 (tails x x' xs (xs' ++ d ∷ ys') e)

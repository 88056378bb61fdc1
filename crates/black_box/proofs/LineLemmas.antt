-- The value of digits, one after the other.
use Rattle.std.proofs.Common.{◌≡◌, ℕ, ◌+◌, ◌-◌, ◌*◌, ◌^◌, ◌<◌, ◌≤◌, List, [], ◌∷◌, ap, ◌∙◌, arith}
use Rattle.std.specs.Prelude.{true, false, cond, ◌&&◌, leb, Option, Some, None}
use Rattle.std.specs.Char.{is_ascii_digit, digit_value}
use Rattle.std.specs.List.{list_all}
use Rattle.std.specs.Str.Parse.{digits_value_after}
use Rattle.std.proofs.lemmas.Bool.{cond-true, cond-false, and_parts, and_left, and_right, leb-true, lt-leb, le-leb, le-ltb, lt-ltb}

-- the value of digits that follow others, whose value is n
abbrev pub value_left : ℕ → List ℕ → Option ℕ
value_left n w =
    cond (list_all is_ascii_digit w && leb (digits_value_after 10 n w) (2 ^ 40)) (Some (digits_value_after 10 n w)) None

pub digit_range : (b : ℕ) → is_ascii_digit b ≡ true → (48 ≤ b) × (b ≤ 57)
digit_range b h = let p = and_parts (leb 48 b) (leb b 57) h in (leb-true 48 b p.0, leb-true b 57 p.1)

digit_is : (b : ℕ) → is_ascii_digit b ≡ true → digit_value b ≡ b - 48
digit_is b h =
    let r = digit_range b h in
    let low = r.0 in
    let high = r.1 in
    cond-false _ _ _ (le-ltb b 48 low) ∙ cond-true _ _ _ (lt-ltb b 58 (omega arith))

pub value_of_digit : (n b : ℕ) (w : List ℕ) → is_ascii_digit b ≡ true → value_left n (b ∷ w) ≡ value_left (10 * n + (b - 48)) w
value_of_digit n b w h =
    let next : n * 10 + digit_value b ≡ 10 * n + (b - 48) = omega (arith, digit_is b h) in
    ap (λ t. cond ((t && list_all is_ascii_digit w) && leb (digits_value_after 10 (n * 10 + digit_value b) w) (2 ^ 40))
    (Some (digits_value_after 10 (n * 10 + digit_value b) w)) None) h
    ∙ ap (λ m. value_left m w) next

pub value_of_other : (n b : ℕ) (w : List ℕ) → is_ascii_digit b ≡ false → value_left n (b ∷ w) ≡ None
value_of_other n b w h =
    cond-false {A = Option ℕ} ((is_ascii_digit b && list_all is_ascii_digit w) && leb (digits_value_after 10 n (b ∷ w)) (2 ^ 40))
    (Some (digits_value_after 10 n (b ∷ w))) None
    (and_left (is_ascii_digit b && list_all is_ascii_digit w) (leb (digits_value_after 10 n (b ∷ w)) (2 ^ 40))
    (and_left (is_ascii_digit b) (list_all is_ascii_digit w) h))

value_grows : (n : ℕ) (w : List ℕ) → n ≤ digits_value_after 10 n w
value_grows n [] = omega arith
value_grows n (b ∷ w) = omega (arith, value_grows (n * 10 + digit_value b) w)

pub value_too_large : (n : ℕ) (w : List ℕ) → 2 ^ 40 < n → value_left n w ≡ None
value_too_large n w h =
    let over : 2 ^ 40 < digits_value_after 10 n w = omega (arith, value_grows n w) in
    cond-false {A = Option ℕ} (list_all is_ascii_digit w && leb (digits_value_after 10 n w) (2 ^ 40)) (Some (digits_value_after 10 n w)) None
    (and_right (list_all is_ascii_digit w) (leb (digits_value_after 10 n w) (2 ^ 40)) (lt-leb (digits_value_after 10 n w) (2 ^ 40) over))

pub value_of_none : (n : ℕ) → n ≤ 2 ^ 40 → value_left n [] ≡ Some n
value_of_none n h = cond-true {A = Option ℕ} (leb n (2 ^ 40)) (Some n) None (le-leb n (2 ^ 40) h)

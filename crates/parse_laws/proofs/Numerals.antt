-- The decimal digits of a number spell it.
use Rattle.std.proofs.Common.{◌≡◌, ◌^◌, ◌<◌, ◌≤◌, ◌+◌, ◌-◌, ◌*◌, ◌/◌, ◌%◌, refl, ap, ◌∙◌, sym, ℕ, List, [], ◌∷◌, ◌++◌, Bool, true, false, ◌==◌, arith}
use Rattle.std.proofs.lemmas.Bool.{eqb-true}
use Rattle.std.proofs.lemmas.Fmt.{decimal_by_steps}
use Rattle.std.specs.Prelude.{decimal, pos}
use Rattle.std.specs.Char.{is_ascii_digit}
use Rattle.label_lattice.specs.Names.{Each}
use Rattle.mit_syntax.specs.declared.token.TokenKind.TheVariants.{Number}
use Rattle.mit_syntax.specs.Lexemes.{StopsAt, IsDigits, value, value_after, HasKind}
use Rattle.mit_syntax.proofs.LexBytes.{differ}

abbrev IsNumeralOf : ℕ → List ℕ → Type 0
IsNumeralOf n w = IsDigits w × (value w ≡ n)

digit : (n : ℕ) → n < 10 → is_ascii_digit (48 + n) ≡ true
digit n h = grind arith

each_then : (w : List ℕ) (d : ℕ) → Each is_ascii_digit w → is_ascii_digit d ≡ true → Each is_ascii_digit (w ++ d ∷ [])
each_then [] d h k = (k, tt)
each_then (b ∷ w) d h k = (h.0, each_then w d h.1 k)

digits_then : (w : List ℕ) (d : ℕ) → IsDigits w → is_ascii_digit d ≡ true → IsDigits (w ++ d ∷ [])
digits_then [] d h k = absurd h
digits_then (b ∷ w) d h k = (h.0, each_then w d h.1 k)

value_then : (w : List ℕ) (m d : ℕ) → value_after m (w ++ d ∷ []) ≡ 10 * value_after m w + (d - 48)
value_then [] m d = refl
value_then (b ∷ w) m d = value_then w (10 * m + (b - 48)) d

small_mod : (n : ℕ) → n % 10 < 10
small_mod n = omega arith

one_digit : (n : ℕ) → n < 10 → IsNumeralOf n ((48 + n) ∷ [])
one_digit n h = ((digit n h, tt), omega arith)

more_digits : (n : ℕ) (w : List ℕ) → 10 ≤ n → IsNumeralOf (n / 10) w → IsNumeralOf n (w ++ (48 + n % 10) ∷ [])
more_digits n w h k =
    let v = value_then w 0 (48 + n % 10) in
    let e = k.1 in
    (digits_then w (48 + n % 10) k.0 (digit (n % 10) (small_mod n)), omega (arith, v, e))

numeral : (n : ℕ) → n < 2 ^ 64 → IsNumeralOf n (decimal n)
numeral n h = decimal_by_steps IsNumeralOf one_digit more_digits n h

-- a number that may be written is a token
pub number_kind : (n : ℕ) → n ≤ 9223372036854775807 → HasKind (decimal n) (Number (pos n))
number_kind n h = let k = numeral n (omega (arith, h)) in (k.0, ap (λ m. pos m) (sym k.1), omega (arith, h, k.1))

other_byte : (c b : ℕ) (e : Bool) → (b == c) ≡ e → is_ascii_digit c ≡ false → is_ascii_digit b ≡ true → (b == c) ≡ false
other_byte c b true q h k = differ (sym k ∙ ap is_ascii_digit (eqb-true b c q) ∙ h)
other_byte c b false q h k = q

pub differs : (c : ℕ) (w q : List ℕ) → is_ascii_digit c ≡ false → IsDigits w → StopsAt (λ b. b == c) (w ++ q)
differs c [] q h k = absurd k
differs c (b ∷ w) q h k = other_byte c b (b == c) refl h k.0

-- digits begin with another byte than one that is no digit
pub decimal_differs : (c n : ℕ) (q : List ℕ) → n < 2 ^ 64 → is_ascii_digit c ≡ false → StopsAt (λ b. b == c) (decimal n ++ q)
decimal_differs c n q h k = differs c (decimal n) q k (numeral n h).0

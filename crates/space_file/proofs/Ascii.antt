-- A name is a text.
use Rattle.std.proofs.Common.{◌≡◌, ◌<◌, ◌≤◌, ◌||◌, ◌&&◌, ◌==◌, nat_le, ℕ, zero, suc, List, [], ◌∷◌, true, Bool, inl, inr, get_or, IsUtf8, arith}
use Rattle.std.proofs.lemmas.Bool.{leb-true}
use Rattle.std.proofs.lemmas.Bool.Decides.{nat_tests}
use Rattle.std.proofs.lemmas.Str.{IsUtf8-from_ascii}
use Rattle.std.specs.Char.{is_ascii_digit, is_ascii_alphabetic}
use Rattle.label_lattice.specs.Names.{is_name_byte, Each, IsWord, IsName}
use Rattle.mit_syntax.proofs.LexBytes.{both_of, either_of, digit_range}

letter_small : (b : ℕ) → is_ascii_alphabetic b ≡ true → b < 128
letter_small b e =
    elim (either_of (nat_le 65 b && nat_le b 90) (nat_le 97 b && nat_le b 122) e) [
      | inl h ↦ let k = leb-true b 90 (both_of (nat_le 65 b) (nat_le b 90) h).1 in omega (arith, k)
      | inr h ↦ let k = leb-true b 122 (both_of (nat_le 97 b) (nat_le b 122) h).1 in omega (arith, k)
    ]

name_small : (b : ℕ) → is_name_byte b ≡ true → b < 128
name_small b e =
    elim (either_of (is_ascii_alphabetic b) (is_ascii_digit b || (b == 95)) e) [
      | inl h ↦ letter_small b h
      | inr h ↦ elim (either_of (is_ascii_digit b) (b == 95) h) [
        | inl k ↦ let r = (digit_range b k).1 in omega (arith, r)
        | inr k ↦ grind (arith, nat_tests, k)
      ]
    ]

each_small : (w : List ℕ) → Each is_name_byte w → (i : ℕ) → get_or w i 0 < 128
each_small [] h zero = omega arith
each_small [] h (suc i) = omega arith
each_small (b ∷ w) h zero = name_small b h.0
each_small (b ∷ w) h (suc i) = each_small w h.1 i

word_small : (w : List ℕ) → IsWord w → (i : ℕ) → get_or w i 0 < 128
word_small [] h i = absurd h
word_small (b ∷ w) h zero = letter_small b h.0
word_small (b ∷ w) h (suc i) = each_small w h.1 i

pub name_is_text : (w : List ℕ) → IsName w → IsUtf8 w
name_is_text w h = IsUtf8-from_ascii w (word_small w h.0)

-- A text of tokens and white space alone is ASCII, and so UTF-8.
use Rattle.std.proofs.Common.{◌≡◌, ◌<◌, sym, subst, ℕ, zero, suc, List, [], ◌∷◌, ◌++◌, refl, get_or, Bool, true, ◌&&◌, ◌||◌, ◌==◌, nat_le, inl, inr, arith}
use Rattle.std.proofs.lemmas.Bool.{eqb-true, leb-true}
use Rattle.std.proofs.lemmas.Str.{IsUtf8-from_ascii, IsUtf8-append, IsUtf8-nil}
use Rattle.std.specs.Prelude.{IsUtf8}
use Rattle.std.specs.Char.{is_ascii_digit, is_ascii_alphabetic}
use Rattle.label_lattice.specs.Names.{is_name_byte, Each}
use Rattle.mit_syntax.specs.declared.token.TokenKind.{TokenKind}
use Rattle.mit_syntax.specs.declared.token.TokenKind.TheVariants.{Key, Name, Number, Sign as SignKind, End}
use Rattle.mit_syntax.specs.declared.token.Sign.{Sign}
use Rattle.mit_syntax.specs.Lexemes.{is_white, key_text, sign_text, HasKind}
use Rattle.mit_syntax.specs.Cut.{start, moved, Piece, white, comment, lexeme, spread, CutBefore, tokens_of, end_at, AreTokens}
use Rattle.mit_syntax.proofs.LexBytes.{both_of, either_of, digit_range, word_passes, digits_pass}
use Rattle.mit_syntax.proofs.LexSigns.{each_sign, key_opens}

abbrev EachLow : List ℕ → Type 0
EachLow [] = Unit {0}
EachLow (b ∷ w) = (b < 128) × EachLow w

digit_low : (b : ℕ) → is_ascii_digit b ≡ true → b < 128
digit_low b h = let k = (digit_range b h).1 in omega (arith, k)

letter_low : (b : ℕ) → is_ascii_alphabetic b ≡ true → b < 128
letter_low b h =
    elim (either_of (nat_le 65 b && nat_le b 90) (nat_le 97 b && nat_le b 122) h) [
      | inl h ↦ let k = leb-true b 90 (both_of (nat_le 65 b) (nat_le b 90) h).1 in omega (arith, k)
      | inr h ↦ let k = leb-true b 122 (both_of (nat_le 97 b) (nat_le b 122) h).1 in omega (arith, k)
    ]

is_low : (b n : ℕ) → n < 128 → (b == n) ≡ true → b < 128
is_low b n l h = let k = eqb-true b n h in omega (arith, k, l)

name_low : (b : ℕ) → is_name_byte b ≡ true → b < 128
name_low b h =
    elim (either_of (is_ascii_alphabetic b) (is_ascii_digit b || (b == 95)) h) [
      | inl h ↦ letter_low b h
      | inr h ↦ elim (either_of (is_ascii_digit b) (b == 95) h) [
        | inl h ↦ digit_low b h
        | inr h ↦ is_low b 95 (omega arith) h
      ]
    ]

white_low : (b : ℕ) → is_white b ≡ true → b < 128
white_low b h =
    elim (either_of (b == 32) ((b == 9) || ((b == 13) || (b == 10))) h) [
      | inl h ↦ is_low b 32 (omega arith) h
      | inr h ↦ elim (either_of (b == 9) ((b == 13) || (b == 10)) h) [
        | inl h ↦ is_low b 9 (omega arith) h
        | inr h ↦ elim (either_of (b == 13) (b == 10) h) [
          | inl h ↦ is_low b 13 (omega arith) h
          | inr h ↦ is_low b 10 (omega arith) h
        ]
      ]
    ]

each_low : (p : ℕ → Bool) → ((b : ℕ) → p b ≡ true → b < 128) → (w : List ℕ) → Each p w → EachLow w
each_low p f [] h = tt
each_low p f (b ∷ w) h = (f b h.0, each_low p f w h.1)

sign_low : (s : Sign) → EachLow (sign_text s)
sign_low = each_sign (λ s. EachLow (sign_text s)) (
  (omega arith, (omega arith, tt)),
  (omega arith, tt),
  (omega arith, tt),
  (omega arith, tt),
  (omega arith, tt),
  (omega arith, tt),
  (omega arith, tt),
  (omega arith, tt),
  (omega arith, tt),
  (omega arith, tt),
  (omega arith, tt),
  (omega arith, tt),
  (omega arith, tt),
  (omega arith, tt),
  (omega arith, tt),
  (omega arith, tt),
  (omega arith, (omega arith, tt)),
  (omega arith, (omega arith, tt)),
  (omega arith, (omega arith, tt)),
  (omega arith, tt),
  (omega arith, (omega arith, tt)),
  (omega arith, tt),
)

kind_low : (w : List ℕ) (k : TokenKind) → HasKind w k → EachLow w
kind_low w (Key k) h = subst EachLow (sym h) (each_low is_name_byte name_low (key_text k) (word_passes (key_text k) (key_opens k)))
kind_low w Name h = each_low is_name_byte name_low w (word_passes w h.0)
kind_low w (Number n) h = each_low is_ascii_digit digit_low w (digits_pass w h.0)
kind_low w (SignKind s) h = subst EachLow (sym h) (sign_low s)
kind_low w End h = absurd h

at_low : (w : List ℕ) → EachLow w → (i : ℕ) → get_or w i 0 < 128
at_low [] h i = omega arith
at_low (b ∷ w) h zero = h.0
at_low (b ∷ w) h (suc i) = at_low w h.1 i

pub token_utf8 : (w : List ℕ) (k : TokenKind) → HasKind w k → IsUtf8 w
token_utf8 w k h = IsUtf8-from_ascii w (at_low w (kind_low w k h))

pub white_utf8 : (b : ℕ) → is_white b ≡ true → IsUtf8 (b ∷ [])
white_utf8 b h = IsUtf8-from_ascii (b ∷ []) (at_low (b ∷ []) (white_low b h, tt))

-- there is no comment among the pieces
abbrev pub NoComments : List Piece → Type 0
NoComments [] = Unit {0}
NoComments (white b ∷ ps) = NoComments ps
NoComments (comment c ∷ ps) = ⊥
NoComments (lexeme w k ∷ ps) = NoComments ps

pub plain_utf8 : (ps : List Piece) (rest : List ℕ) → CutBefore ps rest → NoComments ps → IsUtf8 (spread ps)
plain_utf8 [] rest c h = IsUtf8-nil
plain_utf8 (white b ∷ ps) rest c h = IsUtf8-append (b ∷ []) (spread ps) (white_utf8 b c.0) (plain_utf8 ps rest c.1 h)
plain_utf8 (comment d ∷ ps) rest c h = absurd h
plain_utf8 (lexeme w k ∷ ps) rest c h = IsUtf8-append w (spread ps) (token_utf8 w k c.0.1) (plain_utf8 ps rest c.1 h)

-- what is cut into white space and lexemes has their tokens
pub plain_tokens : (ps : List Piece) → CutBefore ps [] → NoComments ps → AreTokens (spread ps) (tokens_of start ps ++ end_at (moved start (spread ps)) ∷ [])
plain_tokens ps c h = record { utf8 = plain_utf8 ps [] c h; pieces = ps; are = refl; cut = c; tokens_are = refl }

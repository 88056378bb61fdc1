-- The longest lexeme at the front of a text.
use Rattle.std.proofs.Common.{◌≡◌, ◌<◌, ◌≤◌, ◌+◌, ◌-◌, ◌*◌, ◌/◌, refl, ap, ◌∙◌, sym, subst, ℕ, zero, suc, List, [], ◌∷◌, ◌++◌, take, drop, get_or, length}
use Rattle.std.proofs.Common.{drop-cons, length-take, Bool, true, false, Option, Some, None, arith}
use Rattle.std.proofs.lemmas.List.{take-append-drop}
use Rattle.std.specs.Char.{is_ascii_digit, is_ascii_alphabetic}
use Rattle.label_lattice.specs.Names.{is_name_byte, Each, IsWord}
use Rattle.mit_syntax.specs.declared.lexeme.Flaw.TheVariants.{Bad}
use Rattle.mit_syntax.specs.declared.token.Sign.{Sign}
use Rattle.mit_syntax.specs.declared.token.TokenKind.{TokenKind}
use Rattle.mit_syntax.specs.declared.token.TokenKind.TheVariants.{Sign as SignKind}
use Rattle.mit_syntax.specs.Lexemes.{StopsAt, value, value_after, sign_text, IsDigits, word, digits, sign, IsLongest, HasKind}
use Rattle.mit_syntax.specs.TokenSteps.{IsToken, HasFlaw, second_is_equal, sign_front}
use Rattle.mit_syntax.proofs.LexBytes.{differ, heads, not_longer, word_passes, digits_pass, each_name, not_both, letter_in_name, front_passes, rest_stops}
use Rattle.mit_syntax.proofs.LexBytes.{grows}
use Rattle.mit_syntax.proofs.LexSigns.{no_sign, no_letter_first, no_digit_first, taken, takes, taken_there}

pub word_longest : (w r : List ℕ) → IsWord w → StopsAt is_name_byte r → IsLongest w r
word_longest [] r h s v q e l = absurd h
word_longest (a ∷ w) r h s v q e (word k) = not_longer is_name_byte (a ∷ w) v r q e (word_passes v k) s
word_longest (a ∷ w) r h s v q e (digits k) = not_longer is_name_byte (a ∷ w) v r q e (each_name v (digits_pass v k)) s
word_longest (a ∷ w) r h s v q e (sign g) = no_sign is_ascii_alphabetic g a (w ++ r) q (no_letter_first g) h.0 e

digits_against : (a : ℕ) (w r v q : List ℕ) → is_ascii_digit a ≡ true → a ∷ (w ++ r) ≡ v ++ q → IsWord v → ⊥
digits_against a w r [] q h e k = k
digits_against a w r (x ∷ v) q h e k = not_both x k.0 (subst (λ b. is_ascii_digit b ≡ true) (heads a x (w ++ r) (v ++ q) e) h)

pub digits_longest : (w r : List ℕ) → IsDigits w → StopsAt is_ascii_digit r → IsLongest w r
digits_longest [] r h s v q e l = absurd h
digits_longest (a ∷ w) r h s v q e (word k) = absurd (digits_against a w r v q h.0 e k)
digits_longest (a ∷ w) r h s v q e (digits k) = not_longer is_ascii_digit (a ∷ w) v r q e (digits_pass v k) s
digits_longest (a ∷ w) r h s v q e (sign g) = no_sign is_ascii_digit g a (w ++ r) q (no_digit_first g) h.0 e

-- where neither a letter nor a digit stands, a lexeme is a sign
word_begins : {X : Type 0} (x : ℕ) (xs v q : List ℕ) → is_ascii_alphabetic x ≡ false → x ∷ xs ≡ v ++ q → IsWord v → X
word_begins x xs [] q h e k = absurd k
word_begins x xs (a ∷ v) q h e k = differ (sym k.0 ∙ ap is_ascii_alphabetic (sym (heads x a xs (v ++ q) e)) ∙ h)

digits_begin : {X : Type 0} (x : ℕ) (xs v q : List ℕ) → is_ascii_digit x ≡ false → x ∷ xs ≡ v ++ q → IsDigits v → X
digits_begin x xs [] q h e k = absurd k
digits_begin x xs (a ∷ v) q h e k = differ (sym k.0 ∙ ap is_ascii_digit (sym (heads x a xs (v ++ q) e)) ∙ h)

module _ (x : ℕ) (xs : List ℕ) (no_letter : is_ascii_alphabetic x ≡ false) (no_digit : is_ascii_digit x ≡ false) where
  pub sign_longest : (s : Sign) (n : ℕ) (r : List ℕ) → taken (x ∷ xs) ≡ Some (s, n) → length (sign_text s) ≡ n → x ∷ xs ≡ sign_text s ++ r
      → IsLongest (sign_text s) r
  sign_longest s n r f z a v q e (word k) = word_begins x xs v q no_letter (a ∙ e) k
  sign_longest s n r f z a v q e (digits k) = digits_begin x xs v q no_digit (a ∙ e) k
  sign_longest s n r f z a v q e (sign g) =
      let t = takes q g in
      let here : x ∷ xs ≡ sign_text g ++ q = a ∙ e in
      let same : ◌≡◌ {A = Option (Sign × ℕ)} (Some (s, n)) (Some t.0) = sym f ∙ ap taken here ∙ t.1 in
      let size : n ≡ t.0.1 = ap (λ o. size_of o) same in
      omega (arith, t.2, size, z)
    where
      size_of : Option (Sign × ℕ) → ℕ
      size_of None = 0
      size_of (Some t) = t.1

  pub no_token : taken (x ∷ xs) ≡ None → HasFlaw (x ∷ xs) Bad
  no_token f v q e (word k) = word_begins x xs v q no_letter e k
  no_token f v q e (digits k) = digits_begin x xs v q no_digit e k
  no_token f v q e (sign g) =
      let t = takes q g in
      let same : ◌≡◌ {A = Option (Sign × ℕ)} None (Some t.0) = sym f ∙ ap taken e ∙ t.1 in
      cc

pub sign_token : (x : ℕ) (xs : List ℕ) (s : Sign) (n : ℕ) → is_ascii_alphabetic x ≡ false → is_ascii_digit x ≡ false
    → taken (x ∷ xs) ≡ Some (s, n) → IsToken (x ∷ xs) (SignKind s) n
sign_token x xs s n no_letter no_digit f =
    let k = taken_there x xs (s, n) f in
    record { spelled = sign_text s; rest = k.0; are = k.1; size = k.2; has_kind = refl; longest = sign_longest x xs no_letter no_digit s n k.0 f k.2 k.1 }

-- a text with a first byte
pub first_byte : (text : List ℕ) → 0 < length text → text ≡ get_or text 0 0 ∷ drop 1 text
first_byte [] h = absurd (omega (arith, h))
first_byte (x ∷ xs) h = refl

-- the front of n bytes
module _ (text : List ℕ) (n : ℕ) (fits : n ≤ length text) where
  pub front_size : length (take n text) ≡ n
  front_size = omega (arith, length-take n text)

  pub both_parts : text ≡ take n text ++ drop n text
  both_parts = sym (take-append-drop n text)

pub is_word : (text : List ℕ) (n : ℕ) → 0 < n → 0 < length text → is_ascii_alphabetic (get_or text 0 0) ≡ true
    → Each is_name_byte (take n text) → IsWord (take n text)
is_word text zero h l e k = absurd (omega (arith, h))
is_word [] (suc n) h l e k = absurd (omega (arith, l))
is_word (x ∷ xs) (suc n) h l e k = (e, k.1)

pub is_digits : (text : List ℕ) (n : ℕ) → 0 < n → 0 < length text → Each is_ascii_digit (take n text) → IsDigits (take n text)
is_digits text zero h l k = absurd (omega (arith, h))
is_digits [] (suc n) h l k = absurd (omega (arith, l))
is_digits (x ∷ xs) (suc n) h l k = k

positive : (p : ℕ → Bool) (text : List ℕ) (n : ℕ) → 0 < length text → p (get_or text 0 0) ≡ true → (n < length text → p (get_or text n 0) ≡ false) → 0 < n
positive p text zero l h stops = differ (sym h ∙ stops l)
positive p text (suc n) l h stops = omega arith

pub word_front : (text : List ℕ) (n : ℕ) → 0 < length text → is_ascii_alphabetic (get_or text 0 0) ≡ true → n ≤ length text
    → ((k : ℕ) → k < n → is_name_byte (get_or text k 0) ≡ true) → (n < length text → is_name_byte (get_or text n 0) ≡ false)
    → IsWord (take n text) × IsLongest (take n text) (drop n text)
word_front text n l h fits before stops =
    let some = positive is_name_byte text n l (letter_in_name (get_or text 0 0) h) stops in
    let w = is_word text n some l h (front_passes is_name_byte text n fits before) in
    (w, word_longest (take n text) (drop n text) w (rest_stops is_name_byte text n fits stops))

pub digits_front : (text : List ℕ) (n : ℕ) → 0 < length text → is_ascii_digit (get_or text 0 0) ≡ true → n ≤ length text
    → ((k : ℕ) → k < n → is_ascii_digit (get_or text k 0) ≡ true) → (n < length text → is_ascii_digit (get_or text n 0) ≡ false)
    → IsDigits (take n text) × IsLongest (take n text) (drop n text)
digits_front text n l h fits before stops =
    let some = positive is_ascii_digit text n l h stops in
    let w = is_digits text n some l (front_passes is_ascii_digit text n fits before) in
    (w, digits_longest (take n text) (drop n text) w (rest_stops is_ascii_digit text n fits stops))

-- a token of n bytes
pub token_of : (text : List ℕ) (kind : TokenKind) (n : ℕ) → n ≤ length text → HasKind (take n text) kind
    → IsLongest (take n text) (drop n text) → IsToken text kind n
token_of text kind n fits h l = record {
  spelled = take n text;
  rest = drop n text;
  are = both_parts text n fits;
  size =
      front_size text n fits;
  has_kind = h;
  longest = l;
}

pub at_sign : (text : List ℕ) (s : Sign) (n : ℕ) → 0 < length text → is_ascii_alphabetic (get_or text 0 0) ≡ false → is_ascii_digit (get_or text 0 0) ≡ false
    → Some (s, n) ≡ sign_front (get_or text 0 0) (second_is_equal text) → IsToken text (SignKind s) n
at_sign [] s n l h k e = absurd (omega (arith, l))
at_sign (x ∷ xs) s n l h k e = sign_token x xs s n h k (sym e)

pub at_no_sign : (text : List ℕ) → 0 < length text → is_ascii_alphabetic (get_or text 0 0) ≡ false → is_ascii_digit (get_or text 0 0) ≡ false
    → None ≡ sign_front (get_or text 0 0) (second_is_equal text) → HasFlaw text Bad
at_no_sign [] l h k e = absurd (omega (arith, l))
at_no_sign (x ∷ xs) l h k e = no_token x xs h k (sym e)

past_max : (n d : ℕ) → (9223372036854775807 - d) / 10 < n → 9223372036854775807 < 10 * n + d
past_max n d h = omega arith

pub too_large : (n i : ℕ) (w : List ℕ) → i < length w → value_after n (drop i w) ≡ value w → (9223372036854775807 - (get_or w i 0 - 48)) / 10 < n
    → 9223372036854775807 < value w
too_large n i w l e h =
    let k = rw (drop-cons w i 0) at e in
    let g = grows (10 * n + (get_or w i 0 - 48)) (drop (suc i) w) in
    let p = past_max n (get_or w i 0 - 48) h in
    omega (arith, k, g, p)

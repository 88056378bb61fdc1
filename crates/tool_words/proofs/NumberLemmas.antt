-- Numbers of one to twenty digits.
use Rattle.std.proofs.Common.{◌≡◌, refl, sym, ap, subst, ℕ, zero, suc, ◌==◌, OkIff, false-eqb, ◌<◌, ◌^◌, Bool, true, false, cond, ◌&&◌, List, length, leb}
use Rattle.std.proofs.Common.{leb-true, le-leb, arith, Result, Err, Some, None}
use Rattle.std.specs.Char.{is_ascii_digit}
use Rattle.std.specs.List.{list_all}
use Rattle.std.specs.Str.Parse.{digits_value, ParsesUnsigned}
use Rattle.std.proofs.lemmas.Str.Parse.{IsDigitsTest, numerals_by_value, parse_digits}
use Rattle.clap.proofs.WalkLemmas.{both}
use Rattle.tool_words.specs.WordsValues.{is_number, number_in}

tells_digits : IsDigitsTest (λ ds. list_all is_ascii_digit ds ≡ true)
tells_digits = record {
  empty = refl;
  parts = λ c cs e. let k = both (is_ascii_digit c) (list_all is_ascii_digit cs) e in let m = both (leb 48 c) (leb c 57) k.0 in
      ((leb-true 48 c m.0, leb-true c 57 m.1), k.1);
  more = λ c cs k e i. (le-leb 48 c k.0 i && le-leb c 57 k.1 i) && e i;
}

ruled_out : (b : Bool) → (b ≡ true → ⊥) → b ≡ false
ruled_out true f = absurd (f refl)
ruled_out false f = refl

at_least : (n : ℕ) → (n == 0) ≡ false → 0 < n
at_least zero e = absurd (false-eqb 0 0 (sym e) refl)
at_least (suc n) e = omega arith

last_false : (a b c : Bool) → c ≡ false → a && (b && c) ≡ false
last_false false b c e = refl
last_false true false c e = refl
last_false true true c e = e

-- digits that `parse` refuses write too large a number
pub refused : {E : Type 0} (least most : ℕ) (text : List ℕ) (r : Result ℕ E) (e : E) → r ≡ Err e → list_all is_ascii_digit text ≡ true
    → (length text == 0) ≡ false → most < 2 ^ 64 → ParsesUnsigned 64 10 text r → None ≡ number_in least most text
refused {E = E} least most text r e is digits some small h =
    let told = parse_digits (numerals_by_value _ tells_digits) 64 text r h digits in
    let wide = subst (λ (x : Result ℕ E). OkIff x ((0 < length text) × (digits_value 10 text < 2 ^ 64)) (digits_value 10 text)) is told in
    let present : 0 < length text = at_least (length text) some in
    let over : leb (digits_value 10 text) most ≡ false = ruled_out _ (λ t. wide (present, omega (arith, leb-true (digits_value 10 text) most t, small))) in
    sym (ap (λ (b : Bool). cond b (Some (digits_value 10 text)) None)
    (last_false (is_number text) (leb least (digits_value 10 text)) (leb (digits_value 10 text) most) over))

-- Bytes of names and digits, and fronts of texts.
use Rattle.std.proofs.Common.{◌≡◌, ◌⊎◌, inl, inr, ◌<◌, ◌≤◌, ◌+◌, ◌-◌, ◌*◌, refl, ap, ◌∙◌, sym, subst, ℕ, zero, suc, List, [], ◌∷◌, ◌++◌, take, drop, get_or}
use Rattle.std.proofs.Common.{length, drop-cons, add-one, Bool, true, false, ◌&&◌, ◌||◌, ◌==◌, nat_le, arith}
use Rattle.std.proofs.lemmas.Bool.{leb-true}
use Rattle.std.specs.Char.{is_ascii_digit, is_ascii_alphabetic}
use Rattle.label_lattice.specs.Names.{is_name_byte, Each, IsWord}
use Rattle.mit_syntax.specs.Lexemes.{StopsAt, value_after, IsDigits}

pub both_of : (a b : Bool) → (a && b) ≡ true → (a ≡ true) × (b ≡ true)
both_of true b e = (refl, e)
both_of false b e = cc

pub either_of : (a b : Bool) → (a || b) ≡ true → (a ≡ true) ⊎ (b ≡ true)
either_of true b e = inl refl
either_of false b e = inr e

or_first : (a b : Bool) → a ≡ true → (a || b) ≡ true
or_first true b e = refl
or_first false b e = cc

or_second : (a b : Bool) → b ≡ true → (a || b) ≡ true
or_second true b e = refl
or_second false b e = e

pub digit_range : (b : ℕ) → is_ascii_digit b ≡ true → (48 ≤ b) × (b ≤ 57)
digit_range b e = let k = both_of (nat_le 48 b) (nat_le b 57) e in (leb-true 48 b k.0, leb-true b 57 k.1)

letter_range : (b : ℕ) → is_ascii_alphabetic b ≡ true → (65 ≤ b)
letter_range b e =
    elim (either_of (nat_le 65 b && nat_le b 90) (nat_le 97 b && nat_le b 122) e) [
      | inl h ↦ leb-true 65 b (both_of (nat_le 65 b) (nat_le b 90) h).0
      | inr h ↦ let k = leb-true 97 b (both_of (nat_le 97 b) (nat_le b 122) h).0 in omega (arith, k)
    ]

pub not_both : {X : Type 0} (b : ℕ) → is_ascii_alphabetic b ≡ true → is_ascii_digit b ≡ true → X
not_both b h k = let x = letter_range b h in let y = digit_range b k in absurd (omega (arith, x, y.1))

pub letter_in_name : (b : ℕ) → is_ascii_alphabetic b ≡ true → is_name_byte b ≡ true
letter_in_name b e = or_first (is_ascii_alphabetic b) (is_ascii_digit b || (b == 95)) e

pub digit_in_name : (b : ℕ) → is_ascii_digit b ≡ true → is_name_byte b ≡ true
digit_in_name b e = or_second (is_ascii_alphabetic b) (is_ascii_digit b || (b == 95)) (or_first (is_ascii_digit b) (b == 95) e)

-- a number only grows with its digits
pub grows : (n : ℕ) (w : List ℕ) → n ≤ value_after n w
grows n [] = omega arith
grows n (b ∷ r) = omega (arith, grows (10 * n + (b - 48)) r)

pub at_index : (p : ℕ → Bool) (i : ℕ) (xs : List ℕ) → i < length xs → Each p (drop i xs) → (p (get_or xs i 0) ≡ true) × Each p (drop (i + 1) xs)
at_index p i xs h e = let k = rw (drop-cons xs i 0) at e in (k.0, rw add-one k.1)

-- the front that passes, and where it stops
pub front_passes : (p : ℕ → Bool) (xs : List ℕ) (n : ℕ) → n ≤ length xs → ((k : ℕ) → k < n → p (get_or xs k 0) ≡ true) → Each p (take n xs)
front_passes p xs zero h each = tt
front_passes p [] (suc n) h each = tt
front_passes p (x ∷ xs) (suc n) h each = (each 0 (omega arith), front_passes p xs n (omega arith) (λ k l. each (suc k) (omega arith)))

pub rest_stops : (p : ℕ → Bool) (xs : List ℕ) (n : ℕ) → n ≤ length xs → (n < length xs → p (get_or xs n 0) ≡ false) → StopsAt p (drop n xs)
rest_stops p [] zero h stops = tt
rest_stops p (x ∷ xs) zero h stops = stops (omega arith)
rest_stops p [] (suc n) h stops = tt
rest_stops p (x ∷ xs) (suc n) h stops = rest_stops p xs n (omega arith) (λ l. stops (omega arith))

-- what passes is no longer than the front
pub differ : {X : Type 0} → true ≡ false → X
differ e = cc

abbrev pub tail_of : List ℕ → List ℕ
tail_of [] = []
tail_of (x ∷ xs) = xs

abbrev pub head_of : List ℕ → ℕ
head_of [] = 0
head_of (x ∷ xs) = x

pub heads : (x y : ℕ) (xs ys : List ℕ) → x ∷ xs ≡ y ∷ ys → x ≡ y
heads x y xs ys e = ap head_of e

pub tails : (x y : ℕ) (xs ys : List ℕ) → x ∷ xs ≡ y ∷ ys → xs ≡ ys
tails x y xs ys e = ap tail_of e

pub not_longer : (p : ℕ → Bool) (w v r q : List ℕ) → w ++ r ≡ v ++ q → Each p v → StopsAt p r → length v ≤ length w
not_longer p [] [] r q e h s = omega arith
not_longer p [] (x ∷ v) r q e h s = differ (sym h.0 ∙ subst (StopsAt p) e s)
not_longer p (a ∷ w) [] r q e h s = omega arith
not_longer p (a ∷ w) (x ∷ v) r q e h s = omega (arith, not_longer p w v r q (tails a x (w ++ r) (v ++ q) e) h.1 s)

pub each_name : (w : List ℕ) → Each is_ascii_digit w → Each is_name_byte w
each_name [] h = tt
each_name (x ∷ w) h = (digit_in_name x h.0, each_name w h.1)

pub word_passes : (w : List ℕ) → IsWord w → Each is_name_byte w
word_passes [] h = absurd h
word_passes (x ∷ w) h = (letter_in_name x h.0, h.1)

pub digits_pass : (w : List ℕ) → IsDigits w → Each is_ascii_digit w
digits_pass [] h = absurd h
digits_pass (x ∷ w) h = h

-- Sets of variables as rows of bits.
use Rattle.std.proofs.Common.{◌≡◌, ℕ, zero, suc, ◌+◌, ◌-◌, ◌*◌, ◌/◌, ◌%◌, ◌^◌, ◌<◌, ◌≤◌, refl, sym, ap, ◌∙◌, subst, List, [], ◌∷◌, length, get_or, slice_set}
use Rattle.std.proofs.Common.{arith, max, min, bit_and, bit_or, w64, ⊎_elim, div-add-mod', replicate, get_or-set_same, get_or-set_other}
use Rattle.std.specs.Prelude.{Bool, true, false, not, ◌||◌, ◌&&◌, eqb, MatchBool}
use Rattle.std.specs.Int.{bit_at, trailing_zeros}
use Rattle.std.proofs.lemmas.Bool.{cases_lt, cases_eq, eq-eqb, ne_eqb, eqb-true, or_right, and_right, both_ways, not-true, not-false}
use Rattle.std.proofs.lemmas.Nat.Bits.{bit_at-zero, bit_at_or, bit_at_and, bit_at-lt, bit_at_set_same, bit_at_set_other, bit_at_clear_same}
use Rattle.std.proofs.lemmas.Nat.Bits.{bit_at_clear_other, bit_at-trailing_zeros}
use Rattle.std.proofs.lemmas.List.{get_or_read}
use mathlib.Core.Path.{fun_ext}
use Rattle.std.proofs.lemmas.Nat.{and_le_l}
use Rattle.label_infer.specs.Rows.{has_in, SharesBit, Meet}

zeros_at : (n k : ℕ) → ◌≡◌ {A = ℕ} (get_or (replicate n 0) k 0) 0
zeros_at zero k = refl
zeros_at (suc n) zero = refl
zeros_at (suc n) (suc k) = zeros_at n k

pub none_has : (n : ℕ) → has_in (replicate n 0) ≡ (λ y. false)
none_has n = fun_ext (λ y. ap (λ z. eqb (bit_at z (y % 64)) 1) (zeros_at n (y / 64)) ∙ ap (λ z. eqb z 1) (bit_at-zero (y % 64)))

past : (xs : List ℕ) (k : ℕ) → length xs ≤ k → get_or xs k 0 ≡ 0
past [] k h = refl
past (x ∷ xs) zero h = absurd (omega (arith, h))
past (x ∷ xs) (suc k) h = past xs k (omega (arith, h))

max_bit : (p q : ℕ) → p < 2 → q < 2 → eqb (max p q) 1 ≡ (eqb p 1 || eqb q 1)
max_bit zero zero h k = refl
max_bit zero (suc zero) h k = refl
max_bit (suc zero) zero h k = refl
max_bit (suc zero) (suc zero) h k = refl
max_bit (suc (suc p)) q h k = absurd (omega (arith, h))
max_bit p (suc (suc q)) h k = absurd (omega (arith, k))

pub union_has : (a b c : List ℕ) → length a ≡ 48 → length b ≡ 48 → length c ≡ 48 → ((k : ℕ) → k < 48 → get_or c k 0 ≡ bit_or (get_or a k 0) (get_or b k 0)) →
    has_in c ≡ (λ y. has_in a y || has_in b y)
union_has a b c la lb lc h = fun_ext (λ y. at (y / 64) (y % 64))
  where
    at : (k i : ℕ) → eqb (bit_at (get_or c k 0) i) 1 ≡ (eqb (bit_at (get_or a k 0) i) 1 || eqb (bit_at (get_or b k 0) i) 1)
    at k i = ⊎_elim
        (λ (j : k < 48).
        ap (λ z. eqb (bit_at z i) 1) (h k j) ∙ ap (λ z. eqb z 1) (bit_at_or (get_or a k 0) (get_or b k 0) i)
        ∙ max_bit (bit_at (get_or a k 0) i) (bit_at (get_or b k 0) i) (bit_at-lt (get_or a k 0) i) (bit_at-lt (get_or b k 0) i))
        (λ (j : 48 ≤ k).
        let za = past a k (omega (arith, la, j)) in
        let zb = past b k (omega (arith, lb, j)) in
        let zc = past c k (omega (arith, lc, j)) in
        ap (λ z. eqb (bit_at z i) 1) zc ∙ ap (λ z. eqb z 1) (bit_at-zero i)
        ∙ sym (ap (λ z. eqb (bit_at z i) 1 || eqb (bit_at (get_or b k 0) i) 1) za ∙ ap (λ z. eqb (bit_at 0 i) 1 || eqb (bit_at z i) 1) zb
        ∙ ap (λ z. eqb z 1 || eqb z 1) (bit_at-zero i)))
        (cases_lt k 48)

-- numbers by word and bit
same_number : (x y : ℕ) → y / 64 ≡ x / 64 → y % 64 ≡ x % 64 → x ≡ y
same_number x y d m = omega (arith, d, m, div-add-mod' x 64, div-add-mod' y 64)

other_bit : (x y : ℕ) → (x ≡ y → ⊥) → y / 64 ≡ x / 64 → y % 64 ≡ x % 64 → ⊥
other_bit x y n d m = n (same_number x y d m)

pub with_has : (a : List ℕ) (x : ℕ) → length a ≡ 48 → x < 3072 →
    has_in (slice_set a (x / 64) (bit_or (get_or a (x / 64) 0) (1 * 2 ^ (x % 64) % 18446744073709551616))) ≡ (λ y. has_in a y || eqb x y)
with_has a x la hx = fun_ext (λ y. at y)
  where
    v : ℕ
    v = bit_or (get_or a (x / 64) 0) (1 * 2 ^ (x % 64) % 18446744073709551616)

    at : (y : ℕ) → has_in (slice_set a (x / 64) v) y ≡ (has_in a y || eqb x y)
    at y =
        let k = x / 64 in
        let i = x % 64 in
        let within : k < length a = omega (arith, la, hx) in
        let small : i < 64 = omega arith in
        ⊎_elim
        (λ (e : x ≡ y).
        let one : has_in (slice_set a k v) x ≡ true =
        ap (λ z. eqb (bit_at z i) 1) (get_or-set_same a k v 0 within) ∙ ap (λ z. eqb z 1) (bit_at_set_same w64 (get_or a k 0) i small) in
        subst (λ z. has_in (slice_set a k v) z ≡ (has_in a z || eqb x z)) e (one ∙ sym (or_right (has_in a x) (eqb x x) (eq-eqb x x refl))))
        (λ (n : x ≡ y → ⊥).
        let rest : (has_in a y || false) ≡ has_in a y = or_none (has_in a y) in
        let same : has_in (slice_set a k v) y ≡ has_in a y = ⊎_elim
        (λ (d : y / 64 ≡ k).
        ap (λ z. eqb (bit_at (get_or (slice_set a k v) z 0) (y % 64)) 1) d
        ∙ ap (λ z. eqb (bit_at z (y % 64)) 1) (get_or-set_same a k v 0 within)
        ∙ ap (λ z. eqb z 1) (bit_at_set_other w64 (get_or a k 0) i small (y % 64) (λ m. other_bit x y n d m))
        ∙ ap (λ z. eqb (bit_at (get_or a z 0) (y % 64)) 1) (sym d))
        (λ (d : y / 64 ≡ k → ⊥). ap (λ z. eqb (bit_at z (y % 64)) 1) (get_or-set_other a k (y / 64) v 0 d))
        (cases_eq (y / 64) k) in
        same ∙ sym (ap (λ z. has_in a y || z) (ne_eqb x y n) ∙ rest))
        (cases_eq x y)
      where
        or_none : (b : Bool) → (b || false) ≡ b
        or_none true = refl
        or_none false = refl

pub without_has : (a : List ℕ) (x : ℕ) → length a ≡ 48 → x < 3072 →
    has_in (slice_set a (x / 64) (bit_and (get_or a (x / 64) 0) (18446744073709551615 - 1 * 2 ^ (x % 64) % 18446744073709551616)))
    ≡ (λ y. has_in a y && not (eqb x y))
without_has a x la hx = fun_ext (λ y. at y)
  where
    v : ℕ
    v = bit_and (get_or a (x / 64) 0) (18446744073709551615 - 1 * 2 ^ (x % 64) % 18446744073709551616)

    at : (y : ℕ) → has_in (slice_set a (x / 64) v) y ≡ (has_in a y && not (eqb x y))
    at y =
        let k = x / 64 in
        let i = x % 64 in
        let within : k < length a = omega (arith, la, hx) in
        let small : i < 64 = omega arith in
        ⊎_elim
        (λ (e : x ≡ y).
        let zero : has_in (slice_set a k v) x ≡ false =
        ap (λ z. eqb (bit_at z i) 1) (get_or-set_same a k v 0 within) ∙ ap (λ z. eqb z 1) (bit_at_clear_same w64 (get_or a k 0) i small) in
        subst (λ z. has_in (slice_set a k v) z ≡ (has_in a z && not (eqb x z))) e
        (zero ∙ sym (and_right (has_in a x) (not (eqb x x)) (ap not (eq-eqb x x refl)))))
        (λ (n : x ≡ y → ⊥).
        let rest : (has_in a y && true) ≡ has_in a y = and_all (has_in a y) in
        let within64 : y % 64 < 64 = omega arith in
        let same : has_in (slice_set a k v) y ≡ has_in a y = ⊎_elim
        (λ (d : y / 64 ≡ k).
        ap (λ z. eqb (bit_at (get_or (slice_set a k v) z 0) (y % 64)) 1) d
        ∙ ap (λ z. eqb (bit_at z (y % 64)) 1) (get_or-set_same a k v 0 within)
        ∙ ap (λ z. eqb z 1) (bit_at_clear_other w64 (get_or a k 0) i small (y % 64) within64 (λ m. other_bit x y n d m))
        ∙ ap (λ z. eqb (bit_at (get_or a z 0) (y % 64)) 1) (sym d))
        (λ (d : y / 64 ≡ k → ⊥). ap (λ z. eqb (bit_at z (y % 64)) 1) (get_or-set_other a k (y / 64) v 0 d))
        (cases_eq (y / 64) k) in
        same ∙ sym (ap (λ z. has_in a y && not z) (ne_eqb x y n) ∙ rest))
        (cases_eq x y)
      where
        and_all : (b : Bool) → (b && true) ≡ b
        and_all true = refl
        and_all false = refl

-- the same, where a word is known by the list that it stands in
pub with_read : (a : List ℕ) (x w : ℕ) → length a ≡ 48 → x < 3072 → w ≡ get_or a (x / 64) w →
    has_in (slice_set a (x / 64) (bit_or w (1 * 2 ^ (x % 64) % 18446744073709551616))) ≡ (λ y. has_in a y || eqb x y)
with_read a x w la hx e =
    let is : w ≡ get_or a (x / 64) 0 = get_or_read a (x / 64) w (omega (arith, la, hx)) e 0 in
    ap (λ z. has_in (slice_set a (x / 64) (bit_or z (1 * 2 ^ (x % 64) % 18446744073709551616)))) is ∙ with_has a x la hx

pub without_read : (a : List ℕ) (x w : ℕ) → length a ≡ 48 → x < 3072 → w ≡ get_or a (x / 64) w →
    has_in (slice_set a (x / 64) (bit_and w (18446744073709551615 - 1 * 2 ^ (x % 64) % 18446744073709551616))) ≡ (λ y. has_in a y && not (eqb x y))
without_read a x w la hx e =
    let is : w ≡ get_or a (x / 64) 0 = get_or_read a (x / 64) w (omega (arith, la, hx)) e 0 in
    ap (λ z. has_in (slice_set a (x / 64) (bit_and z (18446744073709551615 - 1 * 2 ^ (x % 64) % 18446744073709551616)))) is ∙ without_has a x la hx

min_bit : (p q : ℕ) → p < 2 → q < 2 → min p q ≡ 1 → (p ≡ 1) × (q ≡ 1)
min_bit p q h k e = (omega (arith, h, k, e), omega (arith, h, k, e))

pub share : (a b : ℕ) → a < 18446744073709551616 → (bit_and a b ≡ 0 → ⊥) → SharesBit a b
share a b fits some =
    let n = bit_and a b in
    let up = and_le_l a b in
    let i = trailing_zeros w64 n in
    let low = bit_at-trailing_zeros w64 n (omega (arith, some)) (omega (arith, up, fits)) in
    let q = min_bit (bit_at a i) (bit_at b i) (bit_at-lt a i) (bit_at-lt b i) (sym (bit_at_and a b i) ∙ low.1) in
    (i, low.0, q.0, q.1)

-- words with a bit in common
pub meet_at : (a b : List ℕ) (k : ℕ) → SharesBit (get_or a k 0) (get_or b k 0) → Meet (has_in a) (has_in b)
meet_at a b k (i, small, p, q) =
    let x = k * 64 + i in
    let d : x / 64 ≡ k = omega (arith, small) in
    let m : x % 64 ≡ i = omega (arith, small) in
    let at : (c : List ℕ) → bit_at (get_or c k 0) i ≡ 1 → has_in c x ≡ true = λ c e.
    ap (λ z. eqb (bit_at (get_or c z 0) (x % 64)) 1) d ∙ ap (λ z. eqb (bit_at (get_or c k 0) z) 1) m ∙ ap (λ z. eqb z 1) e in
    (x, at a p, at b q)

both_bits : (p q : ℕ) → eqb p 1 ≡ true → eqb q 1 ≡ true → min p q ≡ 1
both_bits p q h k = let a = eqb-true p 1 h in let b = eqb-true q 1 k in omega (arith, a, b)

-- no word with a bit in common
pub apart : (a b : List ℕ) → length a ≡ 48 → ((k : ℕ) → k < 48 → bit_and (get_or a k 0) (get_or b k 0) ≡ 0) → Meet (has_in a) (has_in b) → ⊥
apart a b la h (x, p, q) =
    let k = x / 64 in
    let i = x % 64 in
    let one : bit_at (bit_and (get_or a k 0) (get_or b k 0)) i ≡ 1 =
    bit_at_and (get_or a k 0) (get_or b k 0) i ∙ both_bits (bit_at (get_or a k 0) i) (bit_at (get_or b k 0) i) p q in
    ⊎_elim
    (λ (j : k < 48). let z : bit_at (bit_and (get_or a k 0) (get_or b k 0)) i ≡ 0 = ap (λ z. bit_at z i) (h k j) ∙ bit_at-zero i in omega (arith, one, z))
    (λ (j : 48 ≤ k).
    let z : bit_at (get_or a k 0) i ≡ 0 = ap (λ w. bit_at w i) (past a k (omega (arith, la, j))) ∙ bit_at-zero i in
    let o = eqb-true (bit_at (get_or a k 0) i) 1 p in
    omega (arith, o, z))
    (cases_lt k 48)

match_by : (b : Bool) (P Q : Type 0) → (b ≡ true → P) → (b ≡ false → Q) → MatchBool b P Q
match_by true P Q f g = f refl
match_by false P Q f g = g refl

pub overlap_is : (a b : ℕ) → a < 18446744073709551616 → MatchBool (not (eqb (bit_and a b) 0)) (SharesBit a b) (bit_and a b ≡ 0)
overlap_is a b fits =
    match_by (not (eqb (bit_and a b) 0)) (SharesBit a b) (bit_and a b ≡ 0)
    (λ h. share a b fits (λ z. both_ways (eqb (bit_and a b) 0) (not-true (eqb (bit_and a b) 0) h) (eq-eqb (bit_and a b) 0 z)))
    (λ h. eqb-true (bit_and a b) 0 (not-false (eqb (bit_and a b) 0) h))

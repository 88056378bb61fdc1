-- The ways of one level, counted by powers of two.
use Rattle.std.proofs.Common.{◌≡◌, ℕ, zero, suc, ◌+◌, ◌-◌, ◌*◌, ◌/◌, ◌%◌, ◌^◌, ◌<◌, ◌≤◌, max, List, [], ◌∷◌, length, Bool, true, false, refl, sym, ap, ◌∙◌}
use Rattle.std.proofs.Common.{subst, arith, length-append, pow-add}
use Rattle.std.specs.Prelude.{cond, leb}
use Rattle.std.specs.List.{filter}
use Rattle.std.proofs.lemmas.Bool.{leb-true, leb-false, le-leb, lt-leb}
use Rattle.std.proofs.lemmas.List.Elements.{filter-append}
use Rattle.std.proofs.lemmas.Nat.{pow_pos}
use Rattle.std.proofs.Math.Nat.{pow-suc, pow-zero, le-div_iff_mul-le, div-div-eq-div-mul, div-one}
use Rattle.std.proofs.Math.Pow.{pow_mono}
use Rattle.leak_bound.specs.Records.{Each}
use Rattle.leak_bound.specs.Digits.{digits}
use Rattle.leak_bound.proofs.Digits.{digits_is, digits_of}
use Rattle.leak_bound.proofs.Few.{Each-map}
use Rattle.leak_bound.specs.Rising.{choose, rising}
use Rattle.sharp_count.specs.Levels.{miss_counts}
use Rattle.sharp_count.specs.Lists.{NeverFalling}
use Rattle.sharp_count.specs.Shares.{shares}
use Rattle.sharp_count.specs.Ways.{IsChoice, cycles_of, cycles_in, AreWays}
use Rattle.sharp_count.proofs.Alike.{same_length}
use Rattle.leak_bound.proofs.Choose.{pascal, rising-none, one-rising}
use Rattle.sharp_count.proofs.Listing.{cons_all, listing, length-listing, each_falls}
use Rattle.sharp_count.proofs.Ways.{ways, are_ways, length-one_level}

same_test : (a b c d : ℕ) → (a ≤ b → c ≤ d) → (c ≤ d → a ≤ b) → leb a b ≡ leb c d
same_test a b c d f g = go (leb a b) (leb c d) refl refl
  where
    go : (x y : Bool) → leb a b ≡ x → leb c d ≡ y → x ≡ y
    go true true p q = refl
    go true false p q = absurd (omega (arith, f (leb-true a b p), leb-false c d q))
    go false true p q = absurd (omega (arith, g (leb-true c d q), leb-false a b p))
    go false false p q = refl

module _ {X Y : Type 0} where
  one_more : (b b' : Bool) (x : X) (y : Y) (xs : List X) (ys : List Y) → b ≡ b' → length xs ≡ length ys
      → length (cond b (x ∷ xs) xs) ≡ length (cond b' (y ∷ ys) ys)
  one_more true true x y xs ys p e = ap suc e
  one_more true false x y xs ys p e = absurd (cc)
  one_more false true x y xs ys p e = absurd (cc)
  one_more false false x y xs ys p e = e

-- tests that answer alike let equally many pass
alike : {X : Type 0} (P : X → Type 0) (t t' : X → Bool) → ((x : X) → P x → t x ≡ t' x) → (xs : List X) → Each P xs
    → length (filter t xs) ≡ length (filter t' xs)
alike P t t' f [] h = refl
alike P t t' f (x ∷ xs) h = one_more (t x) (t' x) x x (filter t xs) (filter t' xs) (f x h.0) (alike P t t' f xs h.1)

all_pass : {X : Type 0} (t : X → Bool) (xs : List X) → Each (λ x. t x ≡ true) xs → length (filter t xs) ≡ length xs
all_pass t [] h = refl
all_pass t (x ∷ xs) h = go (t x) h.0 (all_pass t xs h.1)
  where
    go : (b : Bool) → b ≡ true → length (filter t xs) ≡ length xs → length (cond b (x ∷ filter t xs) (filter t xs)) ≡ suc (length xs)
    go true p e = ap suc e
    go false p e = absurd (cc)

-- the sum of the powers
abbrev twos : List ℕ → ℕ
twos [] = 0
twos (m ∷ ms) = 2 ^ m + twos ms

abbrev fits : ℕ → ℕ → List ℕ → Bool
fits most spent ms = leb (spent + twos ms) most

-- of the lists of k numbers that never fall, out of the d numbers from i on, how many fit where so much is spent
abbrev count : ℕ → ℕ → ℕ → ℕ → ℕ → ℕ
count most i d k spent = length (filter (fits most spent) (listing i d k))

first_spent : (most i spent : ℕ) (all : List (List ℕ)) → length (filter (fits most spent) (cons_all i all)) ≡ length (filter (fits most (spent + 2 ^ i)) all)
first_spent most i spent [] = refl
first_spent most i spent (ms ∷ all) =
    let sum : spent + (2 ^ i + twos ms) ≡ spent + 2 ^ i + twos ms = omega arith in
    one_more (fits most spent (i ∷ ms)) (fits most (spent + 2 ^ i) ms) (i ∷ ms) ms (filter (fits most spent) (cons_all i all))
    (filter (fits most (spent + 2 ^ i)) all)
    (ap (λ z. leb z most) sum) (first_spent most i spent all)

split : (most i d k spent : ℕ) → count most i (suc d) (suc k) spent ≡ count most i (suc d) k (spent + 2 ^ i) + count most (suc i) d (suc k) spent
split most i d k spent =
    let begin = cons_all i (listing i (suc d) k) in
    let later = listing (suc i) d (suc k) in
    ap length (filter-append (fits most spent) begin later)
    ∙ length-append (filter (fits most spent) begin) (filter (fits most spent) later)
    ∙ ap (λ z. z + count most (suc i) d (suc k) spent) (first_spent most i spent (listing i (suc d) k))

-- the powers of numbers from i on add up to a multiple of that of i
multiple : (i b k : ℕ) (ms : List ℕ) → NeverFalling i b k ms → (s : ℕ) × (twos ms ≡ s * 2 ^ i)
multiple i b zero [] h = (0, omega arith)
multiple i b zero (m ∷ ms) h = absurd (cc)
multiple i b (suc k) [] h = absurd h
multiple i b (suc k) (m ∷ ms) h =
    let r = multiple m b k ms h.2 in
    let low : i ≤ m = h.0 in
    let back : m ≡ (m - i) + i = omega arith in
    let e : 2 ^ m ≡ 2 ^ (m - i) * 2 ^ i = ap (λ z. 2 ^ z) back ∙ pow-add 2 (m - i) i in
    ((1 + r.0) * 2 ^ (m - i), times (2 ^ m) (twos ms) r.0 (2 ^ (m - i)) (2 ^ i) r.1 e)
  where
    times : (a w s p q : ℕ) → w ≡ s * a → a ≡ p * q → a + w ≡ (1 + s) * p * q
    times a w s p q e f = let g : s * a ≡ s * (p * q) = ap (λ z. s * z) f in omega (arith, e, f, g)

halved : (n spent s : ℕ) → spent + 2 * s ≤ n → 2 * ((spent + 1 - n % 2) / 2 + s) ≤ n
halved n spent s h = omega arith

doubled : (n spent s : ℕ) → 2 * ((spent + 1 - n % 2) / 2 + s) ≤ n → spent + 2 * s ≤ n
doubled n spent s h = omega arith

-- what is spent may be counted in the next power, if all that is left is
half_fits : (most p spent s : ℕ) → 0 < p → leb (spent * p + s * (p * 2)) most ≡ leb ((spent + 1 - (most / p) % 2) / 2 * (p * 2) + s * (p * 2)) most
half_fits most p spent s some =
    let h = (spent + 1 - (most / p) % 2) / 2 in
    same_test (spent * p + s * (p * 2)) most (h * (p * 2) + s * (p * 2)) most
    (λ le.
    let sum : (spent + 2 * s) * p ≤ most = omega (arith, le) in
    let small = (le-div_iff_mul-le {k = p} {x = 2 * (h + s)} {y = most} some).0
    (halved (most / p) spent s ((le-div_iff_mul-le {k = p} {x = spent + 2 * s} {y = most} some).1 sum)) in
    omega (arith, small))
    (λ le.
    let sum : 2 * (h + s) * p ≤ most = omega (arith, le) in
    let small = (le-div_iff_mul-le {k = p} {x = spent + 2 * s} {y = most} some).0
    (doubled (most / p) spent s ((le-div_iff_mul-le {k = p} {x = 2 * (h + s)} {y = most} some).1 sum)) in
    omega (arith, small))

-- of lists of numbers above i, what is spent may be counted in the next power
next_power : (most i d k spent : ℕ) → count most (suc i) d k (spent * 2 ^ i) ≡ count most (suc i) d k ((spent + 1 - (most / 2 ^ i) % 2) / 2 * 2 ^ suc i)
next_power most i d k spent =
    alike (NeverFalling (suc i) (suc i + d) k) (fits most (spent * 2 ^ i)) (fits most ((spent + 1 - (most / 2 ^ i) % 2) / 2 * 2 ^ suc i)) one
    (listing (suc i) d k) (each_falls (suc i + d) (suc i) d k refl)
  where
    one : (ms : List ℕ) → NeverFalling (suc i) (suc i + d) k ms → fits most (spent * 2 ^ i) ms ≡ fits most ((spent + 1 - (most / 2 ^ i) % 2) / 2 * 2 ^ suc i) ms
    one ms falls =
        let h = (spent + 1 - (most / 2 ^ i) % 2) / 2 in
        let r = multiple (suc i) (suc i + d) k ms falls in
        let next : 2 ^ suc i ≡ 2 ^ i * 2 = pow-suc 2 i in
        let w : twos ms ≡ r.0 * (2 ^ i * 2) = r.1 ∙ ap (λ z. r.0 * z) next in
        ap (λ z. leb (spent * 2 ^ i + z) most) w
        ∙ half_fits most (2 ^ i) spent r.0 (pow_pos i)
        ∙ ap (λ z. leb (h * (2 ^ i * 2) + z) most) (sym w)
        ∙ ap (λ z. leb (h * z + twos ms) most) (sym next)

test_none : (b b' : Bool) → b ≡ b' → cond b 1 0 ≡ length {A = List ℕ} (cond b' ([] ∷ []) [])
test_none true true e = refl
test_none true false e = absurd (cc)
test_none false true e = absurd (cc)
test_none false false e = refl

-- the table counts the lists
counts : (d k i most spent : ℕ) → shares d k (most / 2 ^ i) spent ≡ count most i d k (spent * 2 ^ i)
unfolding shares
counts d zero i most spent =
    let r = le-div_iff_mul-le {k = 2 ^ i} {x = spent} {y = most} (pow_pos i) in
    test_none (leb spent (most / 2 ^ i)) (leb (spent * 2 ^ i + 0) most)
    (same_test spent (most / 2 ^ i) (spent * 2 ^ i + 0) most (λ le. omega (arith, r.0 le)) (λ le. r.1 (omega (arith, le))))
counts zero (suc k) i most spent = refl
counts (suc d) (suc k) i most spent =
    let h = (spent + 1 - (most / 2 ^ i) % 2) / 2 in
    let less : most / 2 ^ i / 2 ≡ most / 2 ^ suc i = div-div-eq-div-mul most (2 ^ i) 2 ∙ ap (λ z. most / z) (sym (pow-suc 2 i)) in
    let later : shares d (suc k) (most / 2 ^ i / 2) h ≡ count most (suc i) d (suc k) (spent * 2 ^ i) =
    ap (λ z. shares d (suc k) z h) less ∙ counts d (suc k) (suc i) most h ∙ sym (next_power most i d (suc k) spent) in
    let more : (spent + 1) * 2 ^ i ≡ spent * 2 ^ i + 2 ^ i = omega arith in
    let begin : shares (suc d) k (most / 2 ^ i) (spent + 1) ≡ count most i (suc d) k (spent * 2 ^ i + 2 ^ i) =
    counts (suc d) k i most (spent + 1) ∙ ap (λ z. count most i (suc d) k z) more in
    omega (arith, later, begin, split most i d k (spent * 2 ^ i))

cycles_by_twos : (e : ℕ) (ms : List ℕ) → cycles_of e ms ≡ twos ms * max e 1
cycles_by_twos e [] = omega arith
cycles_by_twos e (m ∷ ms) = omega (arith, cycles_by_twos e ms)

level_test : (t e : ℕ) (ms : List ℕ) → leb (cycles_of e ms + 0) t ≡ leb (0 * 2 ^ 0 + twos ms) (t / max e 1)
level_test t e ms =
    let some : 0 < max e 1 = omega arith in
    let r = le-div_iff_mul-le {k = max e 1} {x = twos ms} {y = t} some in
    same_test (cycles_of e ms + 0) t (0 * 2 ^ 0 + twos ms) (t / max e 1)
    (λ le. let a = r.1 (omega (arith, le, cycles_by_twos e ms)) in omega (arith, a))
    (λ le. let a = r.0 (omega (arith, le)) in omega (arith, a, cycles_by_twos e ms))

from_zero : (d k most : ℕ) → shares d k most 0 ≡ count most 0 d k (0 * 2 ^ 0)
from_zero d k most = let e : most / 2 ^ 0 ≡ most = ap (λ z. most / z) (pow-zero 2) ∙ div-one most in ap (λ z. shares d k z 0) (sym e) ∙ counts d k 0 most 0

-- and so the ways
pub ways_of_level : (t first k : ℕ) (all : List (List (List ℕ))) → AreWays t (λ l. first) 1 (λ l. k) all
    → shares (miss_counts t first) k (t / max first 1) 0 ≡ length all
ways_of_level t first k all h =
    let most = t / max first 1 in
    let d = miss_counts t first in
    let known = are_ways t (λ l. first) 1 (λ l. k) in
    let P : List (List ℕ) → Type 0 = λ c. IsChoice (λ l. d) 1 (λ l. k) c × (cycles_in (λ l. first) 1 c ≤ t) in
    let same : length all ≡ length (ways t (λ l. first) 1 (λ l. k)) =
    same_length P all (ways t (λ l. first) 1 (λ l. k)) h.each (λ c p. h.whole c p.0 p.1) h.differ known.each (λ c p. known.whole c p.0 p.1) known.differ in
    let tests = alike (NeverFalling 0 d k) (λ ms. leb (cycles_of first ms + 0) t) (fits most (0 * 2 ^ 0))
    (λ ms f. level_test t first ms) (listing 0 d k) (each_falls d 0 d k (omega arith)) in
    from_zero d k most ∙ sym tests ∙ sym (length-one_level t first k) ∙ sym same

pub power_below : (n x : ℕ) → x < digits n → 2 ^ x ≤ n
power_below zero x h = absurd (omega arith)
power_below (suc n) x h = let r = digits_is (suc n) (omega arith) in let le : x ≤ r.0 = omega (arith, r.1) in let up : 2 ^ x ≤ 2 ^ r.0 =
    pow_mono le in omega (arith, up, r.3)

-- of one mitigation they are the miss counts
pub ways_of_one : (most : ℕ) → shares (digits most) 1 most 0 ≡ digits most
ways_of_one most =
    let d = digits most in
    let each : Each (λ ms. fits most (0 * 2 ^ 0) ms ≡ true) (listing 0 d 1) =
    Each-map (NeverFalling 0 d 1) (λ ms. fits most (0 * 2 ^ 0) ms ≡ true) one (listing 0 d 1) (each_falls d 0 d 1 (omega arith)) in
    from_zero d 1 most ∙ all_pass (fits most (0 * 2 ^ 0)) (listing 0 d 1) each ∙ length-listing 0 d 1 ∙ one-rising d
  where
    one : (ms : List ℕ) → NeverFalling 0 (digits most) 1 ms → fits most (0 * 2 ^ 0) ms ≡ true
    one [] h = absurd h
    one (x ∷ []) h = let up = power_below most x h.1 in le-leb (0 * 2 ^ 0 + (2 ^ x + 0)) most (omega (arith, up))
    one (x ∷ (y ∷ ms)) h = let e = h.2 in absurd (cc)

-- they are no more than the lists that never fall
pub shares_few : (d k most spent : ℕ) → shares d k most spent ≤ rising d k
unfolding shares
shares_few d zero most spent = omega (arith, rising-none d, small (leb spent most))
  where
    small : (b : Bool) → cond b 1 0 ≤ 1
    small true = omega arith
    small false = omega arith
shares_few zero (suc k) most spent = omega arith
shares_few (suc d) (suc k) most spent =
    omega (arith, pascal d k, shares_few d (suc k) (most / 2) ((spent + 1 - most % 2) / 2), shares_few (suc d) k most (spent + 1))

choose_small : (n k : ℕ) → choose n k ≤ 2 ^ n
choose_small n zero = pow_pos n
choose_small zero (suc k) = omega arith
choose_small (suc n) (suc k) = omega (arith, choose_small n k, choose_small n (suc k), pow-suc 2 n)

-- and fit into 128 bits
pub shares_fit : (d k most spent : ℕ) → d ≤ 64 → k ≤ 64 → shares d k most spent < 2 ^ 128
shares_fit d k most spent a b =
    let le : k + d - 1 ≤ 127 = omega arith in
    let up : 2 ^ (k + d - 1) ≤ 2 ^ 127 = pow_mono le in
    omega (arith, shares_few d k most spent, choose_small (k + d - 1) k, up)

-- a number has one binary digit more than its half
pub digits_more : (most : ℕ) → 0 < most → digits most ≡ suc (digits (most / 2))
digits_more most some = let r = digits_is most some in r.1 ∙ ap suc (sym (go r.0 r.2 r.3))
  where
    go : (d : ℕ) → most < 2 ^ suc d → 2 ^ d ≤ most → digits (most / 2) ≡ d
    go zero below from = let e : most / 2 ≡ 0 = omega (arith, below) in ap digits e
    go (suc d) below from =
        digits_of (most / 2) d (record { from = omega (arith, from, pow-suc 2 d); below = omega (arith, below, pow-suc 2 (suc d), pow-suc 2 d) })

cell : (most spent d k : ℕ) → shares (suc d) (suc k) most spent ≡ shares d (suc k) (most / 2) ((spent + 1 - most % 2) / 2) + shares (suc d) k most (spent + 1)
unfolding shares
cell most spent d k = refl

-- one cell of the table, from two others
pub one_cell : (most k spent : ℕ) → 0 < most → 0 < k →
    shares (digits most) k most spent ≡ shares (digits (most / 2)) k (most / 2) ((spent + 1 - most % 2) / 2) + shares (digits most) (k - 1) most (spent + 1)
one_cell most zero spent some entries = absurd (omega arith)
one_cell most (suc k) spent some entries =
    let back : suc k - 1 ≡ k = omega arith in
    subst
    (λ d. shares d (suc k) most spent ≡ shares (digits (most / 2)) (suc k) (most / 2) ((spent + 1 - most % 2) / 2) + shares d (suc k - 1) most (spent + 1))
    (sym (digits_more most some))
    (subst (λ z. shares (suc (digits (most / 2))) (suc k) most spent ≡ shares (digits (most / 2)) (suc k) (most / 2) ((spent + 1 - most % 2) / 2) + shares
    (suc (digits (most / 2))) z most (spent + 1)) (sym back) (cell most spent (digits (most / 2)) k))

pub none_fits : (d most spent : ℕ) → spent ≤ most → shares d 0 most spent ≡ 1
unfolding shares
none_fits d most spent le = ap (λ b. cond b 1 0) (le-leb spent most le)

pub none_is_over : (d most spent : ℕ) → most < spent → shares d 0 most spent ≡ 0
unfolding shares
none_is_over d most spent lt = ap (λ b. cond b 1 0) (lt-leb spent most lt)

pub nothing_left : (k spent : ℕ) → 0 < k → shares 0 k 0 spent ≡ 0
unfolding shares
nothing_left zero spent h = absurd (omega arith)
nothing_left (suc k) spent h = refl

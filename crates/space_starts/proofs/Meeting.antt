-- Whether intervals have numbers in common, in whatever order they stand.
use Rattle.std.proofs.Common.{◌≡◌, ◌∙◌, refl, sym, ap, subst, ℕ, ℤ, zero, suc, ◌+◌, ◌-◌, ◌<◌, ◌≤◌, ◌<ℤ◌, ◌≤ℤ◌, List, [], ◌∷◌, length, get_or, arith}
use Rattle.std.proofs.Common.{Bool, true, false, cond, not, ◌&&◌, inl, inr, Less, Equal, Greater}
use Rattle.std.specs.Prelude.{int_le, int_lt}
use Rattle.std.specs.Ordering.{int_cmp, is_lt}
use Rattle.std.specs.List.{list_all, sum_by}
use Rattle.std.specs.List.Sorted.{IsPermutation, IsSortedByKey}
use Rattle.std.proofs.lemmas.Bool.{false≢true, cases_lt}
use Rattle.std.proofs.lemmas.Int.{ints}
use Rattle.std.proofs.lemmas.List.Sums.{sum_by-cons}
use Rattle.std.proofs.lemmas.List.Sorted.{sum_by-IsPermutation, length_permutation}
use Rattle.space_starts.specs.declared.space.Interval.{Interval}
use Rattle.space_starts.specs.Space.{last_of, meet, apart}

-- ---- two intervals

self_meets : (i : Interval) → meet i i ≡ true
self_meets i = grind (arith, ints)

meet_turned : (i j : Interval) → meet i j ≡ meet j i
meet_turned i j = by (int_le i.first (last_of j)) (int_le j.first (last_of i))
  where
    by : (a b : Bool) → (a && b) ≡ (b && a)
    by true true = refl
    by true false = refl
    by false true = refl
    by false false = refl

pub beyond : (i j : Interval) → i.first ≤ℤ j.first → meet i j ≡ false → last_of i <ℤ j.first
beyond i j le e = grind (arith, ints, le, e)

pub far : (i j : Interval) → last_of i <ℤ j.first → meet i j ≡ false
far i j lt = grind (arith, ints, lt)

-- ---- how often some meet some

abbrev hits : Interval → Interval → ℕ
hits i j = cond (meet i j) 1 0

abbrev hits_in : Interval → List Interval → ℕ
hits_in i js = sum_by (hits i) js

abbrev pairs : List Interval → List Interval → ℕ
pairs is js = sum_by (λ i. hits_in i js) is

same_sum : (f g : Interval → ℕ) (is : List Interval) → ((i : Interval) → f i ≡ g i) → sum_by f is ≡ sum_by g is
same_sum f g [] e = refl
same_sum f g (i ∷ is) e =
    let a = sum_by-cons f i is in
    let b = sum_by-cons g i is in
    let here = e i in
    let rest = same_sum f g is e in
    omega (arith, a, b, here, rest)

moved_pairs : (is js : List Interval) → IsPermutation is js → pairs js js ≡ pairs is is
moved_pairs is js p =
    sum_by-IsPermutation (λ i. hits_in i js) is js p
    ∙ same_sum (λ i. hits_in i js) (λ i. hits_in i is) is (λ i. sum_by-IsPermutation (hits i) is js p)

columns : (i : Interval) (is js : List Interval) → sum_by (λ j. hits_in j (i ∷ js)) is ≡ hits_in i is + pairs is js
columns i [] js = refl
columns i (x ∷ is) js =
    let a = sum_by-cons (λ j. hits_in j (i ∷ js)) x is in
    let b = sum_by-cons (hits x) i js in
    let c = sum_by-cons (hits i) x is in
    let d = sum_by-cons (λ j. hits_in j js) x is in
    let turned : hits x i ≡ hits i x = ap {B = ℕ} (λ (b : Bool). cond b 1 0) (meet_turned x i) in
    let rest = columns i is js in
    omega (arith, a, b, c, d, turned, rest)

one_more : (i : Interval) (is : List Interval) → pairs (i ∷ is) (i ∷ is) ≡ 1 + (hits_in i is + hits_in i is) + pairs is is
one_more i is =
    let a = sum_by-cons (λ j. hits_in j (i ∷ is)) i is in
    let b = sum_by-cons (hits i) i is in
    let self : hits i i ≡ 1 = ap {B = ℕ} (λ (b : Bool). cond b 1 0) (self_meets i) in
    let rest = columns i is is in
    omega (arith, a, b, self, rest)

both : (a b : Bool) → (a && b) ≡ true → (a ≡ true) × (b ≡ true)
both true true e = (refl, refl)
both true false e = absurd (false≢true e)
both false b e = absurd (false≢true e)

none_hit : (i : Interval) (is : List Interval) → list_all (λ j. not (meet i j)) is ≡ true → hits_in i is ≡ 0
none_hit i [] e = refl
none_hit i (x ∷ is) e =
    let h = both (not (meet i x)) (list_all (λ j. not (meet i j)) is) e in
    let a = sum_by-cons (hits i) x is in
    let rest = none_hit i is h.1 in
    let here : hits i x ≡ 0 = zero_of (meet i x) h.0 in
    omega (arith, a, rest, here)
  where
    zero_of : (b : Bool) → not b ≡ true → ◌≡◌ {A = ℕ} (cond b 1 0) 0
    zero_of true e = absurd (false≢true e)
    zero_of false e = refl

some_hit : (i : Interval) (is : List Interval) → list_all (λ j. not (meet i j)) is ≡ false → 0 < hits_in i is
some_hit i [] e = absurd (false≢true (sym e))
some_hit i (x ∷ is) e = by (some_hit i is) (meet i x) refl e
  where
    by : (list_all (λ j. not (meet i j)) is ≡ false → 0 < hits_in i is) → (b : Bool) → meet i x ≡ b
        → (not b && list_all (λ j. not (meet i j)) is) ≡ false → 0 < hits_in i (x ∷ is)
    by more true m k =
        let a = sum_by-cons (hits i) x is in
        let here : hits i x ≡ 1 = ap {B = ℕ} (λ (b : Bool). cond b 1 0) m in
        omega (arith, a, here)
    by more false m k =
        let a = sum_by-cons (hits i) x is in
        let rest = more k in
        omega (arith, a, rest)

-- as many pairs as intervals where none meets another one
apart_few : (is : List Interval) → apart is ≡ true → pairs is is ≡ length is
apart_few [] e = refl
apart_few (i ∷ is) e =
    let h = both (list_all (λ j. not (meet i j)) is) (apart is) e in
    let a = one_more i is in
    let none = none_hit i is h.0 in
    let rest = apart_few is h.1 in
    omega (arith, a, none, rest)

least : (is : List Interval) → length is ≤ pairs is is
least [] = omega arith
least (i ∷ is) = let a = one_more i is in let rest = least is in omega (arith, a, rest)

not_apart_many : (is : List Interval) → apart is ≡ false → length is < pairs is is
not_apart_many [] e = absurd (false≢true (sym e))
not_apart_many (i ∷ is) e = by (not_apart_many is) (list_all (λ j. not (meet i j)) is) refl e
  where
    by : (apart is ≡ false → length is < pairs is is) → (b : Bool) → list_all (λ j. not (meet i j)) is ≡ b → (b && apart is) ≡ false
        → length (i ∷ is) < pairs (i ∷ is) (i ∷ is)
    by more false m k =
        let a = one_more i is in
        let some = some_hit i is m in
        let rest = least is in
        omega (arith, a, some, rest)
    by more true m k =
        let a = one_more i is in
        let rest = more k in
        omega (arith, a, rest)

-- the order tells nothing
pub moved_apart : (is js : List Interval) → IsPermutation is js → apart js ≡ apart is
moved_apart is js p = by (apart js) (apart is) refl refl
  where
    by : (a b : Bool) → apart js ≡ a → apart is ≡ b → a ≡ b
    by true true e k = refl
    by false false e k = refl
    by true false e k =
        let same = moved_pairs is js p in
        let long = length_permutation is js p in
        let few = apart_few js e in
        let much = not_apart_many is k in
        absurd (omega (arith, same, long, few, much))
    by false true e k =
        let same = moved_pairs is js p in
        let long = length_permutation is js p in
        let few = apart_few is k in
        let much = not_apart_many js e in
        absurd (omega (arith, same, long, few, much))

-- ---- in order of their first numbers

abbrev pub Rising : List Interval → Type 0
Rising is = (k : ℕ) (d : Interval) → k + 1 < length is → (get_or is k d).first ≤ℤ (get_or is (k + 1) d).first

-- neighbours below a place do not meet
abbrev pub Clear : List Interval → ℕ → Type 0
Clear is n = (k : ℕ) (d : Interval) → k + 1 < n → meet (get_or is k d) (get_or is (k + 1) d) ≡ false

same_at : (is : List Interval) (k : ℕ) (d e : Interval) → k < length is → get_or is k d ≡ get_or is k e
same_at [] k d e lt = absurd (omega (arith, lt))
same_at (i ∷ is) zero d e lt = refl
same_at (i ∷ is) (suc k) d e lt = same_at is k d e (omega (arith, lt))

pub clear_more : (is : List Interval) (k : ℕ) (d : Interval) → 1 ≤ k → k < length is → meet (get_or is (k - 1) d) (get_or is k d) ≡ false → Clear is k
    → Clear is (k + 1)
clear_more is k d some lt e c m f in' =
    elim (cases_lt (m + 1) k) [
      | inl l ↦ c m f l
      | inr g ↦
          let a : k - 1 ≡ m = omega (arith, g, in', some) in
          let b : k ≡ m + 1 = omega (arith, g, in') in
          let one = subst (λ z. meet (get_or is (k - 1) d) z ≡ false) (same_at is k d f lt) e in
          let two = subst (λ z. meet z (get_or is k f) ≡ false) (same_at is (k - 1) d f (omega (arith, lt))) one in
          let three = subst (λ i. meet (get_or is (k - 1) f) (get_or is i f) ≡ false) b two in
          subst (λ i. meet (get_or is i f) (get_or is (m + 1) f) ≡ false) a three
    ]

not_less : (x y : ℤ) → is_lt (int_cmp x y) ≡ false → y ≤ℤ x
not_less x y e = by (int_lt x y) refl e
  where
    by : (b : Bool) → int_lt x y ≡ b → is_lt (cond b Less (cond (int_lt y x) Greater Equal)) ≡ false → y ≤ℤ x
    by true h k = absurd (false≢true (sym k))
    by false h k = grind (arith, ints, h)

-- what a sort gives
pub sorted : (is : List Interval) → IsSortedByKey (λ i. i.first) int_cmp is → Rising is
sorted is h k d lt = not_less (get_or is (k + 1) d).first (get_or is k d).first (h k d (omega arith) lt)

pub short_apart : (is : List Interval) → length is < 2 → apart is ≡ true
short_apart [] lt = refl
short_apart (i ∷ []) lt = refl
short_apart (i ∷ j ∷ is) lt = absurd (omega (arith, lt))

module _ (is : List Interval) where
  rises : Rising is → (j n : ℕ) (d : Interval) → j + n < length is → (get_or is j d).first ≤ℤ (get_or is (j + n) d).first
  rises up j zero d lt =
      let e : j + 0 ≡ j = omega arith in
      subst (λ k. (get_or is j d).first ≤ℤ (get_or is k d).first) (sym e) (grind (arith, ints))
  rises up j (suc n) d lt =
      let e : j + suc n ≡ (j + n) + 1 = omega arith in
      let before = rises up j n d (omega (arith, lt)) in
      let step = up (j + n) d (omega (arith, lt)) in
      subst (λ k. (get_or is j d).first ≤ℤ (get_or is k d).first) (sym e) (grind (arith, ints, before, step))

  clear_apart : Rising is → Clear is (length is) → (j k : ℕ) (d : Interval) → j < k → k < length is → meet (get_or is j d) (get_or is k d) ≡ false
  clear_apart up clear j k d lt in' =
      let next = beyond (get_or is j d) (get_or is (j + 1) d) (up j d (omega (arith, lt, in'))) (clear j d (omega (arith, lt, in'))) in
      let e : (j + 1) + (k - (j + 1)) ≡ k = omega (arith, lt) in
      let more = subst (λ m. (get_or is (j + 1) d).first ≤ℤ (get_or is m d).first) e (rises up (j + 1) (k - (j + 1)) d (omega (arith, lt, in'))) in
      far (get_or is j d) (get_or is k d) (grind (arith, ints, next, more))

all_not : (i : Interval) (is : List Interval) → ((k : ℕ) (d : Interval) → k < length is → meet i (get_or is k d) ≡ false)
    → list_all (λ j. not (meet i j)) is ≡ true
all_not i [] h = refl
all_not i (x ∷ is) h = by (meet i x) (h 0 x (omega arith)) (all_not i is (λ k d lt. h (suc k) d (omega (arith, lt))))
  where
    by : (b : Bool) → b ≡ false → list_all (λ j. not (meet i j)) is ≡ true → (not b && list_all (λ j. not (meet i j)) is) ≡ true
    by true e r = absurd (false≢true (sym e))
    by false e r = r

pub apart_each : (is : List Interval) → ((j k : ℕ) (d : Interval) → j < k → k < length is → meet (get_or is j d) (get_or is k d) ≡ false) → apart is ≡ true
apart_each [] h = refl
apart_each (i ∷ is) h =
    by (list_all (λ j. not (meet i j)) is) (all_not i is (λ k d lt. h 0 (suc k) d (omega arith) (omega (arith, lt))))
    (apart_each is (λ j k d lt le. h (suc j) (suc k) d (omega (arith, lt)) (omega (arith, le))))
  where
    by : (b : Bool) → b ≡ true → apart is ≡ true → (b && apart is) ≡ true
    by true e r = r
    by false e r = absurd (false≢true e)

pub clear : (is : List Interval) → Rising is → Clear is (length is) → apart is ≡ true
clear is up c = apart_each is (clear_apart is up c)

not_all : (i : Interval) (is : List Interval) (k : ℕ) (d : Interval) → k < length is → meet i (get_or is k d) ≡ true
    → list_all (λ j. not (meet i j)) is ≡ false
not_all i [] k d lt e = absurd (omega (arith, lt))
not_all i (x ∷ is) zero d lt e = by (meet i x) e
  where
    by : (b : Bool) → b ≡ true → (not b && list_all (λ j. not (meet i j)) is) ≡ false
    by true e = refl
    by false e = absurd (false≢true e)
not_all i (x ∷ is) (suc k) d lt e = by (not (meet i x)) (not_all i is k d (omega (arith, lt)) e)
  where
    by : (b : Bool) → list_all (λ j. not (meet i j)) is ≡ false → (b && list_all (λ j. not (meet i j)) is) ≡ false
    by true e = e
    by false e = refl

-- two that meet are enough
pub met : (is : List Interval) (j k : ℕ) (d : Interval) → j < k → k < length is → meet (get_or is j d) (get_or is k d) ≡ true → apart is ≡ false
met [] j k d lt le e = absurd (omega (arith, le))
met (i ∷ is) j zero d lt le e = absurd (omega (arith, lt))
met (i ∷ is) zero (suc k) d lt le e = by (list_all (λ j. not (meet i j)) is) (not_all i is k d (omega (arith, le)) e)
  where
    by : (b : Bool) → b ≡ false → (b && apart is) ≡ false
    by true e = absurd (false≢true (sym e))
    by false e = refl
met (i ∷ is) (suc j) (suc k) d lt le e = by (list_all (λ j. not (meet i j)) is) (met is j k d (omega (arith, lt)) (omega (arith, le)) e)
  where
    by : (b : Bool) → apart is ≡ false → (b && apart is) ≡ false
    by true e = e
    by false e = refl

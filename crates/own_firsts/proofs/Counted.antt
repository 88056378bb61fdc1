-- How many ways there are.
use Rattle.std.proofs.Common.{◌≡◌, ℕ, zero, suc, ◌+◌, ◌-◌, ◌*◌, ◌^◌, ◌<◌, ◌≤◌, List, [], ◌∷◌, ◌++◌, length}
use Rattle.std.proofs.Common.{length-append, Bool, true, false, refl, sym, ap, ◌∙◌, subst}
use Rattle.std.proofs.Common.{inl, inr, ⊎_elim, arith}
use Rattle.std.specs.Prelude.{cond, ltb, max, ◌/◌, ◌%◌}
use Rattle.std.proofs.Math.Nat.{le-max_left, le-max_right, max-le, mul-le-mul_left, div-le_self}
use Rattle.std.proofs.lemmas.Bool.{cases_eq, cases_lt, lt-ltb, le-ltb}
use Rattle.std.proofs.lemmas.Nat.{le-div, mul-le, div-add-mod'}
use Rattle.leak_bound.specs.Digits.{digits}
use Rattle.leak_bound.specs.Rising.{rising, sharp}
use Rattle.sharp_count.specs.Levels.{miss_counts}
use Rattle.sharp_count.specs.Lists.{NeverFalling, IsAmong}
use Rattle.sharp_count.specs.Ways.{IsChoice}
use Rattle.sharp_count.proofs.Alike.{each-among, no_longer}
use Rattle.leak_bound.proofs.Choose.{pascal, rising-none, rising-le}
use Rattle.sharp_count.proofs.Listing.{cons_all, among_left, among_right}
use Rattle.sharp_count.proofs.Shares.{power_below}
use Rattle.sharp_count.proofs.Ways.{Choice, pairs, length-pairs, among-pairs}
use Rattle.leak_bound.proofs.Digits.{power_digits}
use Rattle.own_firsts.specs.Ways.{cycles_from, cycles_by, IsOwnWay}
use Rattle.own_firsts.specs.Count.{lists_below, own_by, own, OwnIsEnough, OwnExample}

-- each number is below what is told of its place
abbrev Below : (ℕ → ℕ) → ℕ → List ℕ → Type 0
Below limits i [] = Unit {0}
Below limits i (x ∷ xs) = (x < limits i) × Below limits (i + 1) xs

-- ---- the lists of one level

begins_with : Bool → ℕ → List (List ℕ) → List (List ℕ)
begins_with true m all = cons_all m all
begins_with false m all = []

listed : (ℕ → ℕ) → ℕ → ℕ → ℕ → ℕ → List (List ℕ)
listed limits m c i zero = [] ∷ []
listed limits m zero i (suc k) = []
listed limits m (suc c) i (suc k) = begins_with (ltb m (limits i)) m (listed limits m (suc c) (i + 1) k) ++ listed limits (suc m) c i (suc k)

length-cons : (m : ℕ) (all : List (List ℕ)) → length (cons_all m all) ≡ length all
length-cons m [] = refl
length-cons m (xs ∷ all) = ap suc (length-cons m all)

length-begins : (b : Bool) (m : ℕ) (all : List (List ℕ)) → length (begins_with b m all) ≡ cond b (length all) 0
unfolding begins_with
length-begins true m all = length-cons m all
length-begins false m all = refl

length-listed : (limits : ℕ → ℕ) (m c i k : ℕ) → length (listed limits m c i k) ≡ lists_below limits m c i k
unfolding listed lists_below
length-listed limits m c i zero = refl
length-listed limits m zero i (suc k) = refl
length-listed limits m (suc c) i (suc k) =
    let b = ltb m (limits i) in
    let first = listed limits m (suc c) (i + 1) k in
    let rest = listed limits (suc m) c i (suc k) in
    length-append (begins_with b m first) rest
    ∙ ap (λ z. z + length rest) (length-begins b m first ∙ ap (λ z. cond b z 0) (length-listed limits m (suc c) (i + 1) k))
    ∙ ap (λ z. cond b (lists_below limits m (suc c) (i + 1) k) 0 + z) (length-listed limits (suc m) c i (suc k))

among-cons : (m : ℕ) (xs : List ℕ) (all : List (List ℕ)) → IsAmong xs all → IsAmong (m ∷ xs) (cons_all m all)
among-cons m xs [] h = absurd h
among-cons m xs (ys ∷ all) (inl e) = inl (ap (λ z. m ∷ z) e)
among-cons m xs (ys ∷ all) (inr h) = inr (among-cons m xs all h)

among-begins : (b : Bool) (m : ℕ) (xs : List ℕ) (all : List (List ℕ)) → b ≡ true → IsAmong xs all → IsAmong (m ∷ xs) (begins_with b m all)
unfolding begins_with
among-begins true m xs all e h = among-cons m xs all h
among-begins false m xs all e h = absurd cc

has_all : (limits : ℕ → ℕ) (b m c i k : ℕ) (xs : List ℕ) → m + c ≡ b → NeverFalling m b k xs → Below limits i xs → IsAmong xs (listed limits m c i k)
unfolding listed
has_all limits b m c i zero xs e h w = inl h
has_all limits b m zero i (suc k) [] e h w = absurd h
has_all limits b m zero i (suc k) (x ∷ xs) e h w = let low = h.0 in let up = h.1 in absurd (omega (arith, e))
has_all limits b m (suc c) i (suc k) [] e h w = absurd h
has_all limits b m (suc c) i (suc k) (x ∷ xs) e h w =
    let low = h.0 in
    let first = listed limits m (suc c) (i + 1) k in
    let rest = listed limits (suc m) c i (suc k) in
    let here = begins_with (ltb m (limits i)) m first in
    ⊎_elim
    (λ (q : x ≡ m).
    among_left (x ∷ xs) here rest
    (subst (λ z. IsAmong (z ∷ xs) here) (sym q)
    (among-begins (ltb m (limits i)) m xs first (lt-ltb m (limits i) (subst (λ z. z < limits i) q w.0))
    (has_all limits b m (suc c) (i + 1) k xs e (subst (λ z. NeverFalling z b k xs) q h.2) w.1))))
    (λ (ne : x ≡ m → ⊥).
    among_right (x ∷ xs) here rest (has_all limits b (suc m) c i (suc k) (x ∷ xs) (omega (arith, e)) (omega arith, h.1, h.2) w))
    (cases_eq x m)

-- cycles that fit into T leave each mitigation its own miss counts
below_own : (t : ℕ) (firsts : ℕ → ℕ) (i : ℕ) (ms : List ℕ) → cycles_from firsts i ms ≤ t → Below (λ j. miss_counts t (firsts j)) i ms
below_own t firsts i [] h = tt
below_own t firsts i (m ∷ ms) h =
    let some : 0 < max (firsts i) 1 = omega (arith, le-max_right (firsts i) 1) in
    (power_digits m (t / max (firsts i) 1) (le-div (2 ^ m) t (max (firsts i) 1) some (omega (arith, h))), below_own t firsts (i + 1) ms (omega (arith, h)))

-- ---- the choices of all levels

module _ (t : ℕ) (firsts : ℕ → ℕ → ℕ) (counts : ℕ → ℕ) where
  of_level : ℕ → List (List ℕ)
  of_level l = listed (λ i. miss_counts t (firsts l i)) 0 (digits t) 0 (counts l)

  all_own : ℕ → List Choice
  all_own zero = [] ∷ []
  all_own (suc l) = pairs (of_level l) (all_own l)

  length-all_own : (n : ℕ) → length (all_own n) ≡ own t firsts n counts
  unfolding all_own of_level
  length-all_own zero = refl
  length-all_own (suc l) =
      length-pairs (of_level l) (all_own l)
      ∙ ap (λ z. z * length (all_own l)) (length-listed (λ i. miss_counts t (firsts l i)) 0 (digits t) 0 (counts l))
      ∙ ap (λ z. own_by t (firsts l) (counts l) * z) (length-all_own l)

  among_all : (n : ℕ) (c : Choice) → IsChoice (λ l. digits t) n counts c → cycles_by firsts n c ≤ t → IsAmong c (all_own n)
  unfolding all_own of_level
  among_all zero c h le = inl h
  among_all (suc l) [] h le = absurd h
  among_all (suc l) (ms ∷ c) h le =
      among-pairs ms c (of_level l) (all_own l)
      (has_all (λ i. miss_counts t (firsts l i)) (digits t) 0 (digits t) 0 (counts l) ms (omega arith) h.0 (below_own t (firsts l) 0 ms (omega (arith, le))))
      (among_all l c h.1 (omega (arith, le)))

-- ---- never more than the sharp count

few_lists : (limits : ℕ → ℕ) (b m c i k : ℕ) → ((j : ℕ) → j < k → limits (i + j) ≤ b) → b ≤ m + c → lists_below limits m c i k ≤ rising (b - m) k
unfolding lists_below
few_lists limits b m c i zero h up = omega (arith, rising-none (b - m))
few_lists limits b m zero i (suc k) h up = omega arith
few_lists limits b m (suc c) i (suc k) h up =
    let above = few_lists limits b (suc m) c i (suc k) h (omega (arith, up)) in
    ⊎_elim
    (λ (lt : m < limits i).
    let at : limits (i + 0) ≡ limits i = ap limits (omega arith) in
    let le = h 0 (omega arith) in
    let one : b - m ≡ suc (b - suc m) = omega (arith, lt, at, le) in
    let first = few_lists limits b m (suc c) (i + 1) k
    (λ j less. let e : (i + 1) + j ≡ i + suc j = omega arith in subst (λ z. limits z ≤ b) (sym e) (h (suc j) (omega arith))) up in
    let whole = ap (λ z. rising z (suc k)) one ∙ pascal (b - suc m) k in
    let same = ap (λ z. rising z k) one in
    let is = ap (λ z. cond z (lists_below limits m (suc c) (i + 1) k) 0) (lt-ltb m (limits i) lt) in
    omega (arith, above, first, whole, same, is))
    (λ (ge : limits i ≤ m).
    let is = ap (λ z. cond z (lists_below limits m (suc c) (i + 1) k) 0) (le-ltb m (limits i) ge) in
    let less : b - suc m ≤ b - m = omega arith in
    omega (arith, above, is, rising-le (b - suc m) (b - m) (suc k) less))
    (cases_lt m (limits i))

-- a greater number has as many binary digits or more
digits_up : (a b : ℕ) → a ≤ b → digits a ≤ digits b
digits_up a b le = go (digits a) refl
  where
    go : (d : ℕ) → digits a ≡ d → d ≤ digits b
    go zero e = omega arith
    go (suc x) e =
        let low = power_below a x (omega (arith, e)) in
        let up = power_digits x b (omega (arith, low, le)) in
        omega (arith, up)

-- a greater first prediction leaves as many miss counts or fewer
miss_counts_down : (t least e : ℕ) → least ≤ e → miss_counts t e ≤ miss_counts t least
miss_counts_down t least e le =
    let some : 0 < max least 1 = omega (arith, le-max_right least 1) in
    let up : max least 1 ≤ max e 1 = max-le (omega (arith, le, le-max_left e 1)) (le-max_right e 1) in
    let q = t / max e 1 in
    let whole : q * max e 1 + t % max e 1 ≡ t = div-add-mod' t (max e 1) in
    let less : q * max least 1 ≤ q * max e 1 = mul-le-mul_left q up in
    digits_up q (t / max least 1) (le-div q t (max least 1) some (omega (arith, whole, less)))

own_few : (t : ℕ) (firsts : ℕ → ℕ → ℕ) (counts least : ℕ → ℕ) → ((l i : ℕ) → i < counts l → least l ≤ firsts l i) → (n : ℕ)
    → own t firsts n counts ≤ sharp (λ l. miss_counts t (least l)) n counts
own_few t firsts counts least h zero = omega arith
own_few t firsts counts least h (suc l) =
    let b = miss_counts t (least l) in
    let some : 0 < max (least l) 1 = omega (arith, le-max_right (least l) 1) in
    let top : t / max (least l) 1 ≤ t = div-le_self t (max (least l) 1) in
    let whole : b - 0 ≡ b = omega arith in
    let few = few_lists (λ i. miss_counts t (firsts l i)) b 0 (digits t) 0 (counts l)
    (λ j less. let e : 0 + j ≡ j = omega arith in
    subst (λ z. miss_counts t (firsts l z) ≤ b) (sym e) (miss_counts_down t (least l) (firsts l j) (h l j less)))
    (omega (arith, digits_up (t / max (least l) 1) t top)) in
    mul-le (own_by t (firsts l) (counts l)) (own t firsts l counts) (rising b (counts l)) (sharp (λ l. miss_counts t (least l)) l counts)
    (subst (λ z. own_by t (firsts l) (counts l) ≤ rising z (counts l)) whole few) (own_few t firsts counts least h l)

pub own_is_enough : OwnIsEnough
own_is_enough t firsts n counts = (
  λ ways are.
      let all = all_own t firsts counts n in
      let one : length ways ≤ length all =
      no_longer ways all are.differ (λ c i. let p = each-among (IsOwnWay t firsts n counts) c ways are.each i in among_all t firsts counts n c p.0 p.1) in
      omega (arith, one, length-all_own t firsts counts n),
  λ least h. own_few t firsts counts least h n,
)

pub own_example : OwnExample
unfolding lists_below
own_example = (refl, refl)

-- How many values there are, and the value with a number.
use Rattle.std.proofs.Common.{◌≡◌, ◌∙◌, sym, ap, ℕ, pos, zero, suc, ◌+◌, ◌-◌, ◌*◌, ◌^◌, ◌+ℤ◌, ◌<◌, ◌≤◌, List, [], ◌∷◌, length, get_or, drop, arith}
use Rattle.std.proofs.Common.{drop-cons, add-one, append_assoc, append-nil, ◌++◌, Some, None, Bool, true, false, cond, le-leb, Vec, inl, inr}
use Rattle.std.specs.Prelude.{All, nat_le}
use Rattle.std.specs.declared.alloc.Global.{Global}
use Rattle.std.proofs.lemmas.Bool.{cases_lt}
use Rattle.std.proofs.lemmas.Bool.Decides.{nat_tests}
use Rattle.std.proofs.lemmas.Option.{none-some, same_Some}
use Rattle.std.proofs.lemmas.List.{drop_all, drop_more}
use Rattle.std.proofs.lemmas.List.Elements.{All-tail}
use Rattle.start_space.specs.Space.{size, within}
use Rattle.space_starts.specs.declared.space.Interval.{Interval}
use Rattle.space_starts.specs.Space.{many, value_in, lists, counts, IsValues}

module _ (is : List Interval) (k : ℕ) (d : Interval) (lt : k < length is) where
  opened : drop k is ≡ get_or is k d ∷ drop (k + 1) is
  opened = drop-cons is k d lt ∙ ap (λ n. get_or is k d ∷ drop n is) (sym (add-one k))

  -- those of the first of the rest
  pub many_more : many (drop k is) ≡ (get_or is k d).more + 1 + many (drop (k + 1) is)
  many_more = ap many opened

  pub value_here : (n : ℕ) → n ≤ (get_or is k d).more → value_in (drop k is) n ≡ (get_or is k d).first +ℤ pos n
  value_here n le =
      let t : nat_le n (get_or is k d).more ≡ true = le-leb n (get_or is k d).more le in
      ap (λ l. value_in l n) opened
      ∙ ap (λ b. cond b ((get_or is k d).first +ℤ pos n) (value_in (drop (k + 1) is) (n - ((get_or is k d).more + 1)))) t

  pub value_later : (n : ℕ) → (get_or is k d).more < n
      → value_in (drop k is) n ≡ value_in (drop (k + 1) is) (n - (get_or is k d).more - 1)
  value_later n lt =
      let t : nat_le n (get_or is k d).more ≡ false = grind (arith, nat_tests, lt) in
      let e : n - ((get_or is k d).more + 1) ≡ n - (get_or is k d).more - 1 = omega arith in
      ap (λ l. value_in l n) opened
      ∙ ap (λ b. cond b ((get_or is k d).first +ℤ pos n) (value_in (drop (k + 1) is) (n - ((get_or is k d).more + 1)))) t
      ∙ ap (value_in (drop (k + 1) is)) e

pub none_left : (is : List Interval) (k : ℕ) → length is ≤ k → many (drop k is) ≡ 0
none_left is k le = ap many (drop_all k is le)

pub too_many : (n : ℕ) → 2 ^ 40 < n → within (2 ^ 40) n ≡ None
too_many n lt = let t : nat_le n (2 ^ 40) ≡ false = grind (arith, nat_tests, lt) in ap (λ b. cond b (Some n) None) t

pub few : (n : ℕ) → n ≤ 2 ^ 40 → within (2 ^ 40) n ≡ Some n
few n le = ap (λ b. cond b (Some n) None) (le-leb n (2 ^ 40) le)

pub within_is : (n m : ℕ) → Some m ≡ within (2 ^ 40) n → m ≡ n
within_is n m e = by (nat_le n (2 ^ 40)) e
  where
    by : (b : Bool) → Some m ≡ cond b (Some n) None → m ≡ n
    by true k = same_Some m n k
    by false k = absurd (none-some m (sym k))

pub not_within : (n : ℕ) → None ≡ within (2 ^ 40) n → 2 ^ 40 < n
not_within n e =
    elim (cases_lt (2 ^ 40) n) [
      | inl l ↦ l
      | inr g ↦ absurd (none-some n (e ∙ few n g))
    ]

-- ---- the counts of variables, one after another

module _ (vs : List (Vec Interval Global)) (k : ℕ) (old : List ℕ) (h : old ++ counts (lists (drop k vs)) ≡ counts (lists vs)) where
  pub counts_more : (v : Vec Interval Global) (new : List ℕ) (n : ℕ) → k < length vs → v ≡ get_or vs k v → n ≡ many v.items → new ≡ old ++ n ∷ []
      → new ++ counts (lists (drop (k + 1) vs)) ≡ counts (lists vs)
  counts_more v new n lt at is e =
      let rest = counts (lists (drop (k + 1) vs)) in
      let opened : drop k vs ≡ v ∷ drop (k + 1) vs = drop_more vs k v lt ∙ ap (λ z. z ∷ drop (k + 1) vs) (sym at) in
      ap (λ l. l ++ rest) e ∙ append_assoc old (n ∷ []) rest ∙ ap (λ m. old ++ m ∷ rest) is ∙ ap (λ l. old ++ counts (lists l)) (sym opened) ∙ h

  pub counts_all : length vs ≤ k → old ≡ counts (lists vs)
  counts_all le = sym (append-nil old) ∙ ap (λ l. old ++ counts (lists l)) (sym (drop_all k vs le)) ∙ h

-- ---- one that has too many makes too many choices

some_many : (is : List Interval) → 0 < length is → 0 < many is
some_many [] lt = absurd (omega (arith, lt))
some_many (i ∷ is) lt = omega arith

grow : (a b : ℕ) → 0 < b → a ≤ a * b
grow a zero lt = absurd (omega (arith, lt))
grow a (suc b) lt = let e : a * suc b ≡ a + a * b = grind arith in omega (arith, e)

product_some : (a b : ℕ) → 0 < a → 0 < b → 0 < a * b
product_some a b lt more = let g = grow a b more in omega (arith, g, lt)

all_some : (vs : List (List Interval)) → All IsValues vs → 0 < size (counts vs)
all_some [] h = omega arith
all_some (v ∷ vs) h = product_some (many v) (size (counts vs)) (some_many v (h 0 v (omega arith)).some) (all_some vs (All-tail IsValues v vs h))

pub too_large : (vs : List (List Interval)) (k : ℕ) (d : List Interval) → All IsValues vs → k < length vs → 2 ^ 40 < many (get_or vs k d)
    → 2 ^ 40 < size (counts vs)
too_large [] k d h lt big = absurd (omega (arith, lt))
too_large (v ∷ vs) zero d h lt big =
    let g = grow (many v) (size (counts vs)) (all_some vs (All-tail IsValues v vs h)) in
    omega (arith, g, big)
too_large (v ∷ vs) (suc k) d h lt big =
    let rest = too_large vs k d (All-tail IsValues v vs h) (omega (arith, lt)) big in
    let g = grow (size (counts vs)) (many v) (some_many v (h 0 v (omega arith)).some) in
    let turned : size (counts vs) * many v ≡ many v * size (counts vs) = grind arith in
    omega (arith, g, turned, rest)

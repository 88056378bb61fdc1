-- What classes tell and cost hangs on the runs alone, and on no order of the classes.
use Rattle.std.proofs.Common.{◌≡◌, ◌≢◌, ◌≤◌, ◌<◌, ◌+◌, ◌*◌, ℕ, zero, suc, List, [], ◌∷◌, map, Bool, true, false, cond, not, ◌||◌, refl, sym, ap, ◌∙◌, subst}
use Rattle.std.proofs.Common.{arith, true≢false, inl, inr, length, max, ltb, eqb}
use Rattle.std.specs.List.{sum_by, AllByRecursion, AllZip, list_any}
use Rattle.std.specs.Bool.{Decides}
use Rattle.std.specs.Cmp.Lexicographic.{pointwise}
use Rattle.std.specs.Set.{distinct_count}
use Rattle.std.proofs.lemmas.List.Sums.{sum_by-cons}
use Rattle.std.proofs.Math.Nat.{mul-le-mul_left}
use Rattle.std.proofs.lemmas.Bool.{cases_Bool, or_parts, or_cases, ltb-true, ltb-false}
use Rattle.first_replay.specs.Replay.{Entry}
use Rattle.run_entries.specs.Entries.{entries_of}
use Rattle.first_front.specs.declared.class.Class.{Class}
use Rattle.first_front.specs.declared.class.Varied.{Varied}
use Rattle.first_front.specs.Told.{told_at, shown_at, end_at, tells, shows, things_at, cost_at, latest_at}
use Rattle.first_front.proofs.Lists.{counts, same_members}
use Rattle.first_front.proofs.Alike.{AreAlike}
use Rattle.entry_classes.specs.Classes.{AreClasses}

-- two runs that tell the same and end together, whatever the first prediction is
pub record AreSame (v w : Varied) (es fs : List Entry) : Type 0 where
  pub told : (n : ℕ) → told_at v n es ≡ told_at w n fs
  pub shown : (n : ℕ) → shown_at v n es ≡ shown_at w n fs
  pub end : (n : ℕ) → end_at v n es ≡ end_at w n fs

-- a number of each run, summed up over both lists of runs
sum_same : (v w : Varied) (f g : List Entry → ℕ) → ((es fs : List Entry) → AreSame v w es fs → f es ≡ g fs) → (rs ss : List (List Entry)) →
    AllZip (AreSame v w) rs ss → sum_by f rs ≡ sum_by g ss
sum_same v w f g each [] [] h = refl
sum_same v w f g each [] (s ∷ ss) h = absurd h
sum_same v w f g each (r ∷ rs) [] h = absurd h
sum_same v w f g each (r ∷ rs) (s ∷ ss) h =
    let a = sum_by-cons f r rs in
    let b = sum_by-cons g s ss in
    let one = each r s h.0 in
    let rest = sum_same v w f g each rs ss h.1 in
    omega (arith, a, b, one, rest)

-- how many starts' runs pass a test
abbrev counted : (List Entry → Bool) → List Entry → ℕ
counted p es = cond (p es) 1 0

some_counted : (p : List Entry → Bool) (cs : List Class) → AllByRecursion (λ c. 1 ≤ c.starts) cs → list_any (λ c. p (entries_of c.entries.items)) cs ≡ true →
    1 ≤ sum_by (λ c. c.starts * counted p (entries_of c.entries.items)) cs
some_counted p [] some h = absurd (true≢false (sym h))
some_counted p (c ∷ cs) some h =
    let f : Class → ℕ = λ x. x.starts * counted p (entries_of x.entries.items) in
    let a = sum_by-cons f c cs in
    let few = some.0 in
    elim (or_cases (p (entries_of c.entries.items)) (list_any (λ x. p (entries_of x.entries.items)) cs) h) [
      | inl e ↦
          let one : f c ≡ c.starts * 1 = ap (λ b. c.starts * cond b 1 0) e in
          omega (arith, a, one, few)
      | inr e ↦ let r = some_counted p cs some.1 e in omega (arith, a, r)
    ]

none_counted : (p : List Entry → Bool) (cs : List Class) → list_any (λ c. p (entries_of c.entries.items)) cs ≡ false →
    sum_by (λ c. c.starts * counted p (entries_of c.entries.items)) cs ≡ 0
none_counted p [] h = refl
none_counted p (c ∷ cs) h =
    let f : Class → ℕ = λ x. x.starts * counted p (entries_of x.entries.items) in
    let a = sum_by-cons f c cs in
    let parts = or_parts (p (entries_of c.entries.items)) (list_any (λ x. p (entries_of x.entries.items)) cs) h in
    let none : f c ≡ c.starts * 0 = ap (λ b. c.starts * cond b 1 0) parts.0 in
    let r = none_counted p cs parts.1 in
    omega (arith, a, none, r)

module _ (v w : Varied) (rs ss : List (List Entry)) (same : AllZip (AreSame v w) rs ss) (cs ds : List Class) (h : AreClasses rs cs) (k : AreClasses ss ds) where
  sums : (f g : List Entry → ℕ) → ((es fs : List Entry) → AreSame v w es fs → f es ≡ g fs) →
      sum_by (λ c. c.starts * f (entries_of c.entries.items)) cs ≡ sum_by (λ c. c.starts * g (entries_of c.entries.items)) ds
  sums f g each = h.sums f ∙ (sum_same v w f g each rs ss same ∙ sym (k.sums g))

  -- a class passes a test exactly where one of the others does
  any : (p q : List Entry → Bool) → ((es fs : List Entry) → AreSame v w es fs → p es ≡ q fs) →
      list_any (λ c. p (entries_of c.entries.items)) cs ≡ list_any (λ c. q (entries_of c.entries.items)) ds
  any p q each =
      let e = sums (counted p) (counted q) (λ es fs s. ap (λ b. cond b 1 0) (each es fs s)) in
      elim (cases_Bool (list_any (λ c. p (entries_of c.entries.items)) cs)) [
        | inl a ↦ elim (cases_Bool (list_any (λ c. q (entries_of c.entries.items)) ds)) [
          | inl b ↦ a ∙ sym b
          | inr b ↦ let one = some_counted p cs h.some a in let none = none_counted q ds b in absurd (omega (arith, e, one, none))
        ]
        | inr a ↦ elim (cases_Bool (list_any (λ c. q (entries_of c.entries.items)) ds)) [
          | inl b ↦ let one = some_counted q ds k.some b in let none = none_counted p cs a in absurd (omega (arith, e, one, none))
          | inr b ↦ a ∙ sym b
        ]
      ]

mapped : {X : Type 0} (f : X → List ℕ) (p : List ℕ → Bool) (xs : List X) → list_any p (map f xs) ≡ list_any (λ x. p (f x)) xs
mapped f p [] = refl
mapped f p (x ∷ xs) = ap (λ z. p (f x) || z) (mapped f p xs)

-- the runs of a class end after a cycle exactly where the last of all does
ends_after : (v : Varied) (n x : ℕ) (cs : List Class) → list_any (λ c. ltb x (end_at v n (entries_of c.entries.items))) cs ≡ true → x < latest_at v n cs
ends_after v n x [] h = absurd (true≢false (sym h))
ends_after v n x (c ∷ cs) h =
    elim (or_cases (ltb x (end_at v n (entries_of c.entries.items))) (list_any (λ y. ltb x (end_at v n (entries_of y.entries.items))) cs) h) [
      | inl e ↦ let l = ltb-true x (end_at v n (entries_of c.entries.items)) e in omega (arith, l)
      | inr e ↦ let l = ends_after v n x cs e in omega (arith, l)
    ]

ends_by : (v : Varied) (n x : ℕ) (cs : List Class) → list_any (λ c. ltb x (end_at v n (entries_of c.entries.items))) cs ≡ false → latest_at v n cs ≤ x
ends_by v n x [] h = omega arith
ends_by v n x (c ∷ cs) h =
    let parts = or_parts (ltb x (end_at v n (entries_of c.entries.items))) (list_any (λ y. ltb x (end_at v n (entries_of y.entries.items))) cs) h in
    let one = ltb-false x (end_at v n (entries_of c.entries.items)) parts.0 in
    let rest = ends_by v n x cs parts.1 in
    omega (arith, one, rest)

-- none of them ends after the last
none_after : (v : Varied) (n : ℕ) (cs : List Class) → list_any (λ c. ltb (latest_at v n cs) (end_at v n (entries_of c.entries.items))) cs ≡ false
none_after v n cs =
    elim (cases_Bool (list_any (λ c. ltb (latest_at v n cs) (end_at v n (entries_of c.entries.items))) cs)) [
      | inl e ↦ let l = ends_after v n (latest_at v n cs) cs e in absurd (omega (arith, l))
      | inr e ↦ e
    ]

-- whether a run has other miss counts with one first prediction than with another one
abbrev differs : Varied → ℕ → ℕ → List Entry → Bool
differs v n m es = not (pointwise eqb (told_at v n es) (told_at v m es))

none_differs : (v : Varied) (n m : ℕ) (cs : List Class) → tells v n cs ≡ tells v m cs → list_any (λ c. differs v n m (entries_of c.entries.items)) cs ≡ false
none_differs v n m [] h = refl
none_differs v n m (c ∷ cs) h =
    let head : told_at v n (entries_of c.entries.items) ≡ told_at v m (entries_of c.entries.items) = cc in
    let tail : tells v n cs ≡ tells v m cs = cc in
    let d = counts (told_at v n (entries_of c.entries.items)) (told_at v m (entries_of c.entries.items)) in
    ap (λ z. not z || list_any (λ x. differs v n m (entries_of x.entries.items)) cs) (d.1 head) ∙ none_differs v n m cs tail

all_same : (v : Varied) (n m : ℕ) (cs : List Class) → list_any (λ c. differs v n m (entries_of c.entries.items)) cs ≡ false → tells v n cs ≡ tells v m cs
all_same v n m [] h = refl
all_same v n m (c ∷ cs) h =
    let parts = or_parts (differs v n m (entries_of c.entries.items)) (list_any (λ x. differs v n m (entries_of x.entries.items)) cs) h in
    let d = counts (told_at v n (entries_of c.entries.items)) (told_at v m (entries_of c.entries.items)) in
    let head = d.0 (same_if (pointwise eqb (told_at v n (entries_of c.entries.items)) (told_at v m (entries_of c.entries.items))) parts.0) in
    ap (λ z. z ∷ tells v n cs) head ∙ ap (λ z. told_at v m (entries_of c.entries.items) ∷ z) (all_same v n m cs parts.1)
  where
    same_if : (b : Bool) → not b ≡ false → b ≡ true
    same_if true h = refl
    same_if false h = absurd (true≢false h)

module _ (v w : Varied) (rs ss : List (List Entry)) (same : AllZip (AreSame v w) rs ss) (cs ds : List Class) (h : AreClasses rs cs) (k : AreClasses ss ds) where
  latest_alike : (n : ℕ) → latest_at v n cs ≡ latest_at w n ds
  latest_alike n =
      let later : (x : ℕ) → list_any (λ c. ltb x (end_at v n (entries_of c.entries.items))) cs
      ≡ list_any (λ c. ltb x (end_at w n (entries_of c.entries.items))) ds =
      λ x. any v w rs ss same cs ds h k (λ es. ltb x (end_at v n es)) (λ es. ltb x (end_at w n es)) (λ es fs s. ap (ltb x) (s.end n)) in
      let up = ends_by v n (latest_at w n ds) cs (later (latest_at w n ds) ∙ none_after w n ds) in
      let down = ends_by w n (latest_at v n cs) ds (sym (later (latest_at v n cs)) ∙ none_after v n cs) in
      omega (arith, up, down)

  things_alike : (n : ℕ) → things_at v n cs ≡ things_at w n ds
  things_alike n =
      same_members (shows v n cs) (shows w n ds) (λ q.
      mapped (λ (c : Class). shown_at v n (entries_of c.entries.items)) (pointwise eqb q) cs
      ∙ (any v w rs ss same cs ds h k (λ es. pointwise eqb q (shown_at v n es)) (λ es. pointwise eqb q (shown_at w n es))
      (λ es fs s. ap (pointwise eqb q) (s.shown n))
      ∙ sym (mapped (λ (c : Class). shown_at w n (entries_of c.entries.items)) (pointwise eqb q) ds)))

  differ_alike : (n m : ℕ) → list_any (λ c. differs v n m (entries_of c.entries.items)) cs ≡ list_any (λ c. differs w n m (entries_of c.entries.items)) ds
  differ_alike n m =
      any v w rs ss same cs ds h k (differs v n m) (differs w n m) (λ es fs s.
      ap (λ z. not (pointwise eqb z (told_at v m es))) (s.told n) ∙ ap (λ z. not (pointwise eqb (told_at w n fs) z)) (s.told m))

  pub classes_alike : AreAlike v cs w ds
  classes_alike = record {
    things = things_alike;
    cost = λ n. sums v w rs ss same cs ds h k (end_at v n) (end_at w n) (λ es fs s. s.end n);
    latest = latest_alike;
    same = λ n m e. all_same w n m ds (sym (differ_alike n m) ∙ none_differs v n m cs e);
    back = λ n m e. all_same v n m cs (differ_alike n m ∙ none_differs w n m ds e);
  }

-- One run more.
use Rattle.std.proofs.Common.{◌≡◌, ◌≤◌, ◌+◌, ◌*◌, ℕ, List, [], ◌∷◌, ◌++◌, Vec, Global, Bool, true, false, cond, refl, sym, ap, ◌∙◌, subst, arith}
use Rattle.std.specs.List.{sum_by, AllByRecursion}
use Rattle.std.proofs.lemmas.List.Sums.{sum_by-cons, sum_by_push}
use Rattle.std.proofs.Math.Nat.{add-mul}
use Rattle.first_replay.specs.Replay.{Entry}
use Rattle.run_entries.specs.declared.entry.Entry.{Entry as Kept}
use Rattle.run_entries.specs.Entries.{entries_of}
use Rattle.class_counts.specs.Tally.{add, total}
use Rattle.entry_classes.specs.Classes.{ArePairs}
use Rattle.entry_classes.proofs.Exact.{same_entries, entries_exact}

-- what a list with its number adds
abbrev pub weight : (List Entry → ℕ) → Vec Kept Global × ℕ → ℕ
weight f c = c.1 * f (entries_of c.0.items)

-- one start more in a class
wider : (n k s : ℕ) → (n + 1) * k + s ≡ n * k + s + k
wider n k s = let a = add-mul n 1 k in omega (arith, a)

module _ (f : List Entry → ℕ) where
  sum_by_test : (b : Bool) (v : Vec Kept Global) (c : Vec Kept Global × ℕ) (es fs : List (Vec Kept Global × ℕ))
      → (b ≡ true → entries_of v.items ≡ entries_of c.0.items)
      → sum_by (weight f) fs ≡ sum_by (weight f) es + f (entries_of v.items)
      → sum_by (weight f) (cond b ((c.0, c.1 + 1) ∷ es) (c ∷ fs)) ≡ sum_by (weight f) (c ∷ es) + f (entries_of v.items)
  sum_by_test true v c es fs same h =
      let a = sum_by-cons (weight f) (c.0, c.1 + 1) es in
      let b = sum_by-cons (weight f) c es in
      let k : f (entries_of v.items) ≡ f (entries_of c.0.items) = ap f (same refl) in
      let w = wider c.1 (f (entries_of c.0.items)) (sum_by (weight f) es) in
      omega (arith, a, b, k, w)
  sum_by_test false v c es fs same h =
      let a = sum_by-cons (weight f) c fs in let b = sum_by-cons (weight f) c es in omega (arith, a, b, h)

  sum_added : (es : List (Vec Kept Global × ℕ)) (v : Vec Kept Global) →
      sum_by (weight f) (add same_entries es v 1) ≡ sum_by (weight f) es + f (entries_of v.items)
  sum_added [] v =
      let a = sum_by-cons (weight f) (v, 1) [] in let one : 1 * f (entries_of v.items) ≡ f (entries_of v.items) = omega arith in omega (arith, a, one)
  sum_added (c ∷ es) v =
      sum_by_test (same_entries v c.0) v c es (add same_entries es v 1) (λ e. entries_exact v c.0 e) (sum_added es v)

some_test : (b : Bool) (c : Vec Kept Global × ℕ) (es fs : List (Vec Kept Global × ℕ)) → 1 ≤ c.1 → AllByRecursion (λ x. 1 ≤ x.1) es
    → AllByRecursion (λ x. 1 ≤ x.1) fs → AllByRecursion (λ x. 1 ≤ x.1) (cond b ((c.0, c.1 + 1) ∷ es) (c ∷ fs))
some_test true c es fs h all more = (omega arith, all)
some_test false c es fs h all more = (h, more)

some_added : (es : List (Vec Kept Global × ℕ)) (v : Vec Kept Global) → AllByRecursion (λ x. 1 ≤ x.1) es
    → AllByRecursion (λ x. 1 ≤ x.1) (add same_entries es v 1)
some_added [] v all = (omega arith, tt)
some_added (c ∷ es) v all = some_test (same_entries v c.0) c es (add same_entries es v 1) all.0 all.1 (some_added es v all.1)

pub one_more : (es new : List (Vec Kept Global × ℕ)) (v : Vec Kept Global) (runs : List (List Entry)) → new ≡ add same_entries es v 1
    → ArePairs runs es → ArePairs (runs ++ entries_of v.items ∷ []) new
one_more es new v runs e h = subst (λ z. ArePairs (runs ++ entries_of v.items ∷ []) z) (sym e) (record {
  some = some_added es v h.some;
  sums = λ f. sum_added f es v ∙ ap (λ z. z + f (entries_of v.items)) (h.sums f) ∙ sym (sum_by_push f runs (entries_of v.items));
})

total_test : (b : Bool) (c : Vec Kept Global × ℕ) (es fs : List (Vec Kept Global × ℕ)) → total fs ≡ total es + 1
    → total (cond b ((c.0, c.1 + 1) ∷ es) (c ∷ fs)) ≡ total (c ∷ es) + 1
total_test true c es fs h = omega arith
total_test false c es fs h = omega (arith, h)

pub total_added : (es : List (Vec Kept Global × ℕ)) (v : Vec Kept Global) → total (add same_entries es v 1) ≡ total es + 1
total_added [] v = omega arith
total_added (c ∷ es) v = total_test (same_entries v c.0) c es (add same_entries es v 1) (total_added es v)

-- From lists with their numbers to classes.
use Rattle.std.proofs.Common.{◌≡◌, ◌≤◌, ◌<◌, ◌+◌, ◌*◌, ℕ, List, [], ◌∷◌, ◌++◌, length, Vec, Global, refl, sym, ap, ◌∙◌, subst, arith}
use Rattle.std.proofs.Common.{true, false, true≢false}
use Rattle.std.specs.List.{sum_by, AllByRecursion}
use Rattle.std.proofs.lemmas.List.Sums.{sum_by_push}
use Rattle.first_replay.specs.Replay.{Entry}
use Rattle.run_entries.specs.declared.entry.Entry.{Entry as Kept}
use Rattle.run_entries.specs.Entries.{entries_of}
use Rattle.first_front.specs.declared.class.Class.{Class}
use Rattle.entry_classes.specs.Classes.{ArePairs, AreClasses}
use Rattle.entry_classes.proofs.Adding.{weight}

abbrev pub weight_of : (List Entry → ℕ) → Class → ℕ
weight_of f c = c.starts * f (entries_of c.entries.items)

-- the pairs that are left and the classes that are made add up to all runs
pub record Turned (runs : List (List Entry)) (left : List (Vec Kept Global × ℕ)) (made : List Class) : Type 0 where
  pub left_some : AllByRecursion (λ c. 1 ≤ c.1) left
  pub made_some : AllByRecursion (λ c. 1 ≤ c.starts) made
  pub sums : (f : List Entry → ℕ) → sum_by (weight f) left + sum_by (weight_of f) made ≡ sum_by f runs

pub none_turned : (runs : List (List Entry)) (ps : List (Vec Kept Global × ℕ)) (cs : List Class) → cs ≡ [] → ArePairs runs ps → Turned runs ps cs
none_turned runs ps cs e h = subst (λ z. Turned runs ps z) (sym e) (record {
  left_some = h.some;
  made_some = tt;
  sums = λ f. let a = h.sums f in omega (arith, a);
})

all_push : {X : Type 0} (P : X → Type 0) (xs : List X) (x : X) → AllByRecursion P xs → P x → AllByRecursion P (xs ++ x ∷ [])
all_push P [] x h p = (p, tt)
all_push P (y ∷ xs) x h p = (h.0, all_push P xs x h.1 p)

all_pop : {X : Type 0} (P : X → Type 0) (xs : List X) (x : X) → AllByRecursion P (xs ++ x ∷ []) → AllByRecursion P xs × P x
all_pop P [] x h = (tt, h.0)
all_pop P (y ∷ xs) x h = let k = all_pop P xs x h.1 in ((h.0, k.0), k.1)

pub one_turned : (runs : List (List Entry)) (old left : List (Vec Kept Global × ℕ)) (v : Vec Kept Global) (n : ℕ) (cs new : List Class) →
    old ≡ left ++ (v, n) ∷ [] → new ≡ cs ++ record { entries = v; starts = n } ∷ [] → Turned runs old cs → Turned runs left new
one_turned runs old left v n cs new e k h =
    let c : Class = record { entries = v; starts = n } in
    let some = all_pop (λ x. 1 ≤ x.1) left (v, n) (subst (AllByRecursion (λ x. 1 ≤ x.1)) e h.left_some) in
    subst (λ z. Turned runs left z) (sym k) (record {
      left_some = some.0;
      made_some = all_push (λ x. 1 ≤ x.starts) cs c h.made_some some.1;
      sums = λ f.
          let a : sum_by (weight f) old ≡ sum_by (weight f) left + weight f (v, n) = ap (sum_by (weight f)) e ∙ sum_by_push (weight f) left (v, n) in
          let b = sum_by_push (weight_of f) cs c in
          let s = h.sums f in
          omega (arith, a, b, s);
    })

pub all_turned : (runs : List (List Entry)) (left : List (Vec Kept Global × ℕ)) (cs : List Class) → left ≡ [] → Turned runs left cs → AreClasses runs cs
all_turned runs left cs e h =
    let k : Turned runs [] cs = subst (λ z. Turned runs z cs) e h in
    record { some = k.made_some; sums = λ f. let a = k.sums f in omega (arith, a) }

-- nothing is left where nothing was found
pub none_left : {X : Type 0} (xs : List X) → (0 < length xs → false ≡ true) → xs ≡ []
none_left [] h = refl
none_left (x ∷ xs) h = absurd (true≢false (sym (h (omega arith))))

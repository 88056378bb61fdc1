-- Intervals one after another.
use Rattle.std.proofs.Common.{◌≡◌, ℕ, ◌+◌, ◌≤◌, ◌<◌, List, [], ◌∷◌, ◌++◌, arith, refl, subst, inl, inr, sym, Bool}
use Rattle.first_front.specs.declared.class.Class.{Class}
use Rattle.first_front.specs.declared.class.Varied.{Varied}
use Rattle.first_front.specs.declared.interval.Interval.{Interval}
use Rattle.first_front.specs.Intervals.{IsInterval, Covers}
use Rattle.std.specs.List.{filter}
use Rattle.first_front.specs.Front.{AscendFrom}
use Rattle.std.proofs.lemmas.Bool.{cases_lt, cases_Bool, cond-true, cond-false}
use Rattle.first_front.proofs.Members.{In}

pub covers_more : (v : Varied) (cs : List Class) (from to : ℕ) (is : List Interval) (i : Interval) → Covers v cs from is to → i.first ≡ to →
    IsInterval v cs i → Covers v cs from (is ++ i ∷ []) (i.last + 1)
covers_more v cs from to [] i all next one = (cc, one, refl)
covers_more v cs from to (j ∷ is) i all next one = (all.0, all.1, covers_more v cs (j.last + 1) to is i all.2 next one)

pub covers_in : (v : Varied) (cs : List Class) (from to : ℕ) (is : List Interval) (i : Interval) → Covers v cs from is to → In i is → IsInterval v cs i
covers_in v cs from to [] i all there = absurd there
covers_in v cs from to (j ∷ is) i all there =
    elim there [
      | inl e ↦ subst (λ z. IsInterval v cs z) (sym e) all.1
      | inr m ↦ covers_in v cs (j.last + 1) to is i all.2 m
    ]

-- the interval that a first prediction is in
pub record Found (v : Varied) (cs : List Class) (is : List Interval) (n : ℕ) : Type 0 where
  pub one : Interval
  pub there : In one is
  pub interval : IsInterval v cs one
  pub from : one.first ≤ n
  pub to : n ≤ one.last

pub covers_find : (v : Varied) (cs : List Class) (from to : ℕ) (is : List Interval) (n : ℕ) → Covers v cs from is to → from ≤ n → n < to →
    Found v cs is n
covers_find v cs from to [] n all l k = absurd (omega (arith, all, l, k))
covers_find v cs from to (i ∷ is) n all l k =
    elim (cases_lt i.last n) [
      | inl above ↦
          let f = covers_find v cs (i.last + 1) to is n all.2 (omega (arith, above)) k in
          record { one = f.one; there = inr f.there; interval = f.interval; from = f.from; to = f.to }
      | inr within ↦ record { one = i; there = inl refl; interval = all.1; from = omega (arith, all.0, l); to = within }
    ]

ascend_lower : (least more : ℕ) (is : List Interval) → least ≤ more → AscendFrom more is → AscendFrom least is
ascend_lower least more [] l h = tt
ascend_lower least more (i ∷ is) l h = let k = h.0 in (omega (arith, l, k), h.1)

-- those that pass a test ascend too
pub covers_ascend : (v : Varied) (cs : List Class) (from to : ℕ) (is : List Interval) (p : Interval → Bool) → Covers v cs from is to →
    AscendFrom from (filter p is)
covers_ascend v cs from to [] p all = tt
covers_ascend v cs from to (i ∷ is) p all =
    let rest = covers_ascend v cs (i.last + 1) to is p all.2 in
    let up : i.first ≤ i.last = all.1.last.from in
    let first : i.first ≡ from = all.0 in
    elim (cases_Bool (p i)) [
      | inl b ↦ subst (AscendFrom from) (sym (cond-true (p i) (i ∷ filter p is) (filter p is) b))
          (omega (arith, first), ascend_lower (i.first + 1) (i.last + 1) (filter p is) (omega (arith, up)) rest)
      | inr b ↦ subst (AscendFrom from) (sym (cond-false (p i) (i ∷ filter p is) (filter p is) b))
          (ascend_lower from (i.last + 1) (filter p is) (omega (arith, first, up)) rest)
    ]

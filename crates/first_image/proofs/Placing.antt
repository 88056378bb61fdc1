-- The first place at which a number is pushed for a mitigate.
use Rattle.std.proofs.Common.{◌≡◌, ◌<◌, ◌≤◌, ◌+◌, ◌-◌, ℕ, List, [], ◌∷◌, ◌++◌, length, map, take, get_or, Some, sym, ap, ◌∙◌, subst, refl, arith}
use Rattle.std.specs.Prelude.{ℤ, slice_get}
use Rattle.std.proofs.Common.{zero, suc, ⊎_elim}
use Rattle.std.proofs.lemmas.Bool.{cases_lt}
use Rattle.std.proofs.lemmas.List.{take_more, map-append}
use Rattle.std.proofs.lemmas.Option.{get_or_from_slice_get}
use Rattle.label_code.specs.declared.code.Instr.{Instr}
use Rattle.label_code.specs.declared.code.Work.{Work}
use Rattle.first_image.specs.Tuned.{Estimates, PushesFor, IsPlaceOf, number_of}

place_there : (is : List Instr) (mark place next : ℕ) (one two : Instr) → next ≡ place + 1 → slice_get is place ≡ Some one → slice_get is next ≡ Some two
    → Estimates one.work two.work mark → PushesFor is mark place
place_there is mark place next one two n a b e = record {
  number = e.0;
  level = e.1;
  one = one;
  next = two;
  there = a;
  after = subst (λ z. slice_get is z ≡ Some two) n b;
  pushes = e.2;
  opens = e.3;
}

-- none of the places before is one
abbrev pub NoneBefore : List Instr → ℕ → ℕ → Type 0
NoneBefore is mark next = (place : ℕ) → place + 1 < next → PushesFor is mark place → ⊥

same_some : (x y : Instr) → Some x ≡ Some y → x ≡ y
same_some x y e = cc

pub not_there : (is : List Instr) (mark place next : ℕ) (one two : Instr) → next ≡ place + 1 → slice_get is place ≡ Some one → slice_get is next ≡ Some two
    → (Estimates one.work two.work mark → ⊥) → PushesFor is mark place → ⊥
not_there is mark place next one two n a b none p =
    let first : p.one ≡ one = same_some p.one one (sym p.there ∙ a) in
    let second : p.next ≡ two = same_some p.next two (sym p.after ∙ (ap (slice_get is) (sym n) ∙ b)) in
    none (p.number, p.level, ap (λ (i : Instr). i.work) (sym first) ∙ p.pushes, ap (λ (i : Instr). i.work) (sym second) ∙ p.opens)

pub none_yet : (is : List Instr) (mark next place : ℕ) (one two : Instr) → next ≡ place + 1 → slice_get is place ≡ Some one → slice_get is next ≡ Some two
    → (Estimates one.work two.work mark → ⊥) → NoneBefore is mark next → NoneBefore is mark (next + 1)
none_yet is mark next place one two n a b none before p lt h =
    ⊎_elim (λ (l : p + 1 < next). before p l h)
    (λ (g : next ≤ p + 1). let same : p ≡ place = omega (arith, lt, g, n) in
    not_there is mark place next one two n a b none (subst (PushesFor is mark) same h))
    (cases_lt (p + 1) next)

within : (is : List Instr) (a : ℕ) (i : Instr) → slice_get is a ≡ Some i → a < length is
within [] a i e = absurd cc
within (x ∷ is) zero i e = omega arith
within (x ∷ is) (suc a) i e = let k = within is a i e in omega (arith, k)

pub none_there : (is : List Instr) (mark next : ℕ) → length is ≤ next → NoneBefore is mark next → (place : ℕ) → IsPlaceOf is mark place → ⊥
none_there is mark next le before place h =
    let lt = within is (place + 1) h.here.next h.here.after in before place (omega (arith, lt, le)) h.here

pub first_there : (is : List Instr) (mark place next : ℕ) (one two : Instr) → next ≡ place + 1 → slice_get is place ≡ Some one → slice_get is next ≡ Some two
    → Estimates one.work two.work mark → NoneBefore is mark next → IsPlaceOf is mark place
first_there is mark place next one two n a b e before = record {
  here = place_there is mark place next one two n a b e;
  first = λ p lt h. before p (omega (arith, lt, n)) h;
}

-- there is one such place
pub one_place : (is : List Instr) (mark a b : ℕ) → IsPlaceOf is mark a → IsPlaceOf is mark b → a ≡ b
one_place is mark a b h k =
    ⊎_elim (λ (l : a < b). absurd (k.first a l h.here))
    (λ (le : b ≤ a). ⊎_elim (λ (l : b < a). absurd (h.first b l k.here)) (λ (more : a ≤ b). omega (arith, le, more)) (cases_lt b a))
    (cases_lt a b)

pub numbers_more : (is : List Instr) (place : ℕ) (i : Instr) (old new : List ℤ) → slice_get is place ≡ Some i
    → old ≡ map (λ (x : Instr). number_of x.work) (take place is)
    → new ≡ old ++ number_of i.work ∷ [] → new ≡ map (λ (x : Instr). number_of x.work) (take (place + 1) is)
numbers_more is place i old new e h k =
    let lt = within is place i e in
    let there : get_or is place i ≡ i = get_or_from_slice_get is place i i e in
    k ∙ (ap (λ z. z ++ number_of i.work ∷ []) h
    ∙ (ap (λ (z : Instr). map (λ (x : Instr). number_of x.work) (take place is) ++ number_of z.work ∷ []) (sym there)
    ∙ (sym (map-append (λ (x : Instr). number_of x.work) (take place is) (get_or is place i ∷ []))
    ∙ ap (map (λ (x : Instr). number_of x.work)) (sym (take_more is place i lt)))))

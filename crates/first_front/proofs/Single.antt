-- There is one front.
use Rattle.std.proofs.Common.{◌≡◌, ℕ, zero, suc, ◌+◌, ◌≤◌, ◌<◌, List, [], ◌∷◌, map, length, get_or, arith, ap, sym, ◌∙◌, refl, inl, inr, ◌⊎◌, subst}
use Rattle.std.specs.List.{All}
use Rattle.std.proofs.lemmas.Bool.{cases_lt}
use Rattle.first_front.specs.declared.class.Class.{Class}
use Rattle.first_front.specs.declared.class.Varied.{Varied}
use Rattle.first_front.specs.declared.interval.Interval.{Interval}
use Rattle.first_front.specs.Intervals.{IsInterval, IsLast}
use Rattle.first_front.specs.Front.{AscendFrom, BeginsAt, IsFront, OneFront}

-- one of them begins there
abbrev Begins : ℕ → List Interval → Type 0
Begins n [] = ⊥
Begins n (i ∷ is) = (n ≡ i.first) ⊎ Begins n is

begins_at : (is : List Interval) (n k : ℕ) (d : ℕ) → k < length (map (λ i. i.first) is) → n ≡ get_or (map (λ i. i.first) is) k d → Begins n is
begins_at [] n k d h e = absurd (omega (arith, h))
begins_at (i ∷ is) n zero d h e = inl e
begins_at (i ∷ is) n (suc k) d h e = inr (begins_at is n k d (omega (arith, h)) e)

begins : (is : List Interval) (n : ℕ) → BeginsAt is n → Begins n is
begins is n h = begins_at is n h.0 n h.1.0 h.1.1

begins_from : (least n : ℕ) (is : List Interval) → AscendFrom least is → Begins n is → least ≤ n
begins_from least n [] h b = absurd b
begins_from least n (i ∷ is) h b =
    elim b [
      | inl e ↦ omega (arith, h.0, e)
      | inr m ↦ let k = begins_from (i.first + 1) n is h.1 m in omega (arith, h.0, k)
    ]

-- one that begins elsewhere than the first is among the others
begins_later : (n : ℕ) (i : Interval) (is : List Interval) → i.first < n → Begins n (i ∷ is) → Begins n is
begins_later n i is l b =
    elim b [
      | inl e ↦ absurd (omega (arith, l, e))
      | inr m ↦ m
    ]

same_last : (v : Varied) (cs : List Class) (first a b : ℕ) → IsLast v cs first a → IsLast v cs first b → a < b → ⊥
same_last v cs first a b h k l = h.more b l k.within (k.same b k.from (omega arith))

one_last : (v : Varied) (cs : List Class) (first a b : ℕ) → IsLast v cs first a → IsLast v cs first b → a ≡ b
one_last v cs first a b h k =
    elim (cases_lt a b) [
      | inl l ↦ absurd (same_last v cs first a b h k l)
      | inr le ↦ elim (cases_lt b a) [
        | inl l ↦ absurd (same_last v cs first b a k h l)
        | inr more ↦ omega (arith, le, more)
      ]
    ]

abbrev made : ℕ → ℕ → ℕ → ℕ → ℕ → Interval
made first last things cost latest = record { first = first; last = last; things = things; cost = cost; latest = latest }

pub one_interval : (v : Varied) (cs : List Class) (i j : Interval) → IsInterval v cs i → IsInterval v cs j → i.first ≡ j.first → i ≡ j
one_interval v cs i j h k e =
    let last : i.last ≡ j.last = one_last v cs j.first i.last j.last (subst (λ z. IsLast v cs z i.last) e h.last) k.last in
    let told : IsInterval v cs (made j.first i.last i.things i.cost i.latest) =
    subst (λ z. IsInterval v cs (made z i.last i.things i.cost i.latest)) e h in
    ap (λ z. made z i.last i.things i.cost i.latest) e
    ∙ (ap (λ z. made j.first z i.things i.cost i.latest) last
    ∙ (ap (λ z. made j.first j.last z i.cost i.latest) (told.things ∙ sym k.things)
    ∙ (ap (λ z. made j.first j.last j.things z i.latest) (told.cost ∙ sym k.cost)
    ∙ ap (λ z. made j.first j.last j.things j.cost z) (told.latest ∙ sym k.latest))))

-- all of them are intervals, and one of the others begins where each of them begins
abbrev Within : Varied → List Class → List Interval → List Interval → Type 0
Within v cs [] js = Unit {0}
Within v cs (i ∷ is) js = IsInterval v cs i × Begins i.first js × Within v cs is js

within : (v : Varied) (cs : List Class) (is js : List Interval) → All (IsInterval v cs) is → All (λ i. Begins i.first js) is → Within v cs is js
within v cs [] js h k = tt
within v cs (i ∷ is) js h k =
    (h 0 i (omega arith), k 0 i (omega arith), within v cs is js (λ n d l. h (suc n) d (omega (arith, l))) (λ n d l. k (suc n) d (omega (arith, l))))

within_later : (v : Varied) (cs : List Class) (is : List Interval) (j : Interval) (js : List Interval) (least : ℕ) → AscendFrom least is → j.first < least →
    Within v cs is (j ∷ js) → Within v cs is js
within_later v cs [] j js least up l h = tt
within_later v cs (i ∷ is) j js least up l h =
    let first = up.0 in
    (h.0, begins_later i.first j js (omega (arith, l, first)) h.1, within_later v cs is j js (i.first + 1) up.1 (omega (arith, l, first)) h.2)

one_list : (v : Varied) (cs : List Class) (a b : ℕ) (is js : List Interval) → AscendFrom a is → AscendFrom b js →
    Within v cs is js → Within v cs js is → is ≡ js
one_list v cs a b [] [] up more h k = refl
one_list v cs a b [] (j ∷ js) up more h k = absurd k.1
one_list v cs a b (i ∷ is) [] up more h k = absurd h.1
one_list v cs a b (i ∷ is) (j ∷ js) up more h k =
    let low : j.first ≤ i.first = begins_from j.first i.first (j ∷ js) (omega arith, more.1) h.1 in
    let high : i.first ≤ j.first = begins_from i.first j.first (i ∷ is) (omega arith, up.1) k.1 in
    let same : i.first ≡ j.first = omega (arith, low, high) in
    let rest = one_list v cs (i.first + 1) (j.first + 1) is js up.1 more.1
    (within_later v cs is j js (i.first + 1) up.1 (omega (arith, same)) h.2) (within_later v cs js i is (j.first + 1) more.1 (omega (arith, same)) k.2) in
    ap (λ z. z ∷ is) (one_interval v cs i j h.0 k.0 same) ∙ ap (λ z. j ∷ z) rest

-- those of one front begin where those of another one do
fits : (v : Varied) (cs : List Class) (limit : ℕ) (is js : List Interval) → IsFront v cs limit is → IsFront v cs limit js → Within v cs is js
fits v cs limit is js h k = within v cs is js h.intervals (λ n d l. begins js (get_or is n d).first (k.each (get_or is n d).first (h.best n d l)))

pub one_front : OneFront
one_front v cs limit is h = (
  λ js k. one_list v cs 1 1 is js h.ascends k.ascends (fits v cs limit is js h k) (fits v cs limit js is k h),
  λ late. let short = h.short late.0 late.1 in let above = late.2 in omega (arith, short, above),
)

-- The cheapest of the first so many intervals that tell few things.
use Rattle.std.proofs.Common.{◌≡◌, ◌≤◌, ◌<◌, ◌+◌, ◌^◌, ℕ, List, length, get_or, arith, ap, sym, ◌∙◌, subst, inl, inr}
use Rattle.std.specs.Prelude.{Option, Some, None, true, false, leb, ltb, ◌&&◌, MatchOption}
use Rattle.std.specs.List.{IsAmong}
use Rattle.std.proofs.lemmas.Bool.{cases_lt, and_parts, and_from, leb-true, ltb-true, lt-ltb, le-leb, both_ways}
use Rattle.std.proofs.Math.Pow.{pow_mono}
use Rattle.std.proofs.lemmas.List.{get_or_default}
use Rattle.first_front.specs.declared.interval.Interval.{Interval}
use Rattle.first_front.specs.Enough.{IsCheapest, AllTellMore, is_cheaper}

-- it holds of each of the first so many
abbrev pub Before : (Interval → Type 0) → List Interval → ℕ → Type 0
Before P is i = (k : ℕ) (d : Interval) → k < i → P (get_or is k d)

-- the cheapest of the first so many that tell few things, or that each of them tells more
pub record Cheapest (is : List Interval) (most i : ℕ) (j : Interval) : Type 0 where
  pub there : IsAmong is j
  pub few : j.things ≤ most
  pub cheapest : Before (λ x. x.things ≤ most → j.cost ≤ x.cost) is i

abbrev pub Found : List Interval → ℕ → ℕ → Option Interval → Type 0
Found is most i None = Before (λ x. most < x.things) is i
Found is most i (Some j) = Cheapest is most i j

pub none_found : (is : List Interval) (most : ℕ) → Found is most 0 None
none_found is most k d l = absurd (omega (arith, l))

-- one more
before_more : (P : Interval → Type 0) (is : List Interval) (i : ℕ) (x : Interval) → i < length is → x ≡ get_or is i x → Before P is i → P x
    → Before P is (i + 1)
before_more P is i x lt at h p k d l =
    elim (cases_lt k i) [
      | inl below ↦ h k d below
      | inr above ↦
          let same : k ≡ i = omega (arith, l, above) in
          subst P (at ∙ (get_or_default is i x d lt ∙ ap (λ z. get_or is z d) (sym same))) p
    ]

before_weaker : (P Q : Interval → Type 0) (is : List Interval) (i : ℕ) → ((x : Interval) → P x → Q x) → Before P is i → Before Q is i
before_weaker P Q is i f h k d l = f (get_or is k d) (h k d l)

more_told : (x : Interval) (most : ℕ) → leb x.things most ≡ false → most < x.things
more_told x most h =
    elim (cases_lt most x.things) [
      | inl l ↦ l
      | inr l ↦ absurd (both_ways (leb x.things most) h (le-leb x.things most l))
    ]

pub found_more : (is : List Interval) (most i : ℕ) (x : Interval) (found : Option Interval) → i < length is → x ≡ get_or is i x →
    Found is most i found → is_cheaper x most found ≡ true → Found is most (i + 1) (Some x)
found_more is most i x None lt at h b =
    let few = leb-true x.things most b in
    record {
      there = (i, (lt, at));
      few = few;
      cheapest = before_more (λ y. y.things ≤ most → x.cost ≤ y.cost) is i x lt at
          (before_weaker (λ y. most < y.things) (λ y. y.things ≤ most → x.cost ≤ y.cost) is i (λ y more less. absurd (omega (arith, more, less))) h)
          (λ less. omega arith);
    }
found_more is most i x (Some j) lt at h b =
    let parts = and_parts (leb x.things most) (ltb x.cost j.cost) b in
    let few = leb-true x.things most parts.0 in
    let less = ltb-true x.cost j.cost parts.1 in
    record {
      there = (i, (lt, at));
      few = few;
      cheapest = before_more (λ y. y.things ≤ most → x.cost ≤ y.cost) is i x lt at
          (before_weaker (λ y. y.things ≤ most → j.cost ≤ y.cost) (λ y. y.things ≤ most → x.cost ≤ y.cost) is i
          (λ y low f. let k = low f in omega (arith, k, less)) h.cheapest)
          (λ f. omega arith);
    }

pub found_same : (is : List Interval) (most i : ℕ) (x : Interval) (found : Option Interval) → i < length is → x ≡ get_or is i x →
    Found is most i found → is_cheaper x most found ≡ false → Found is most (i + 1) found
found_same is most i x None lt at h b = before_more (λ y. most < y.things) is i x lt at h (more_told x most b)
found_same is most i x (Some j) lt at h b = record {
  there = h.there;
  few = h.few;
  cheapest = before_more (λ y. y.things ≤ most → j.cost ≤ y.cost) is i x lt at h.cheapest (λ few.
      elim (cases_lt x.cost j.cost) [
        | inl less ↦ absurd (both_ways (leb x.things most && ltb x.cost j.cost) b
            (and_from (leb x.things most) (ltb x.cost j.cost) (le-leb x.things most few) (lt-ltb x.cost j.cost less)))
        | inr dear ↦ dear
      ]);
}

pub all_found : (is : List Interval) (most i : ℕ) (found : Option Interval) → length is ≤ i → Found is most i found →
    MatchOption found (AllTellMore is most) (IsCheapest is most)
all_found is most i None le h = λ k d l. h k d (omega (arith, l, le))
all_found is most i (Some j) le h = record { there = h.there; few = h.few; cheapest = λ k d l. h.cheapest k d (omega (arith, l, le)) }

-- what fits in 64 bits is at most the number of things that 64 bits tell
pub many_bits : (things bits : ℕ) → things < 2 ^ 64 → 64 ≤ bits → leb things (2 ^ bits) ≡ true
many_bits things bits small many =
    let most : 2 ^ 64 ≤ 2 ^ bits = pow_mono many in
    le-leb things (2 ^ bits) (omega (arith, small, most))

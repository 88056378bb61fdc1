-- The cheapest of the best choices that tell few things is the cheapest of all that do.
use Rattle.std.proofs.Common.{◌≡◌, ◌≤◌, ◌<◌, ℕ, List, length, get_or, arith, ap, sym, ◌∙◌, subst, inl, inr}
use Rattle.std.proofs.lemmas.Bool.{cases_lt}
use Rattle.std.proofs.lemmas.List.{length-map, get_or-map}
use Rattle.first_front.specs.declared.class.Class.{Class}
use Rattle.first_front.specs.declared.class.Varied.{Varied}
use Rattle.first_front.specs.declared.interval.Interval.{Interval}
use Rattle.first_front.specs.Told.{things_at, cost_at}
use Rattle.first_front.specs.Intervals.{IsInterval}
use Rattle.first_front.specs.Front.{IsBest, BeginsAt, IsFront}
use Rattle.first_front.specs.Enough.{IsEnough, NoneIsEnough, IsCheapest, AllTellMore}
use Rattle.first_front.proofs.Single.{one_interval}

-- the interval that begins there
record Begun (is : List Interval) (d : Interval) (n : ℕ) : Type 0 where
  pub at : ℕ
  pub within : at < length is
  pub first : (get_or is at d).first ≡ n

begun : (is : List Interval) (d : Interval) (n : ℕ) → BeginsAt is n → Begun is d n
begun is d n h =
    let long = length-map is (λ (i : Interval). i.first) in
    let l = h.1.0 in
    let at : h.0 < length is = omega (arith, l, long) in
    record { at = h.0; within = at; first = sym (h.1.1 ∙ get_or-map (λ (i : Interval). i.first) is h.0 d n at) }

-- it begins with a choice that is enough
pub record EnoughAt (v : Varied) (cs : List Class) (limit most : ℕ) (i : Interval) : Type 0 where
  pub interval : IsInterval v cs i
  pub enough : IsEnough v cs limit most i.first

module _ (v : Varied) (cs : List Class) (limit most : ℕ) (is : List Interval) (h : IsFront v cs limit is) where
  pub enough_at : (i : Interval) → IsCheapest is most i → EnoughAt v cs limit most i
  enough_at i c =
      let k : ℕ = c.there.0 in
      let l : k < length is = c.there.1.0 in
      let e : i ≡ get_or is k i = c.there.1.1 in
      let interval : IsInterval v cs i = subst (IsInterval v cs) (sym e) (h.intervals k i l) in
      let best : IsBest v cs limit i.first = subst (λ (z : Interval). IsBest v cs limit z.first) (sym e) (h.best k i l) in
      let things = interval.things in
      let cost = interval.cost in
      let few = c.few in
      record {
        interval = interval;
        enough = record {
          best = best;
          few = omega (arith, things, few);
          cheapest = λ m t.
              let g = h.enough m t.0 in
              let b = begun is i g.0 g.1 in
              let j : Interval = get_or is b.at i in
              let there : IsInterval v cs j = h.intervals b.at i b.within in
              let told : j.things ≡ things_at v g.0 cs = there.things ∙ ap (λ z. things_at v z cs) b.first in
              let costs : j.cost ≡ cost_at v g.0 cs = there.cost ∙ ap (λ z. cost_at v z cs) b.first in
              let one = g.2.0 in
              let two = g.2.1 in
              let less = t.1 in
              let low : i.cost ≤ j.cost = c.cheapest b.at i b.within (omega (arith, told, one, less)) in
              omega (arith, low, cost, costs, two);
        };
      }

  pub cheapest_of : (i : Interval) → IsInterval v cs i → IsEnough v cs limit most i.first → IsCheapest is most i
  cheapest_of i interval e =
      let b = begun is i i.first (h.each i.first e.best) in
      let things = interval.things in
      let cost = interval.cost in
      let few = e.few in
      record {
        there = (b.at, (b.within, one_interval v cs i (get_or is b.at i) interval (h.intervals b.at i b.within) (sym b.first)));
        few = omega (arith, things, few);
        cheapest = λ k d l less.
            let there = h.intervals k d l in
            let told = there.things in
            let costs = there.cost in
            let low = e.cheapest (get_or is k d).first ((h.best k d l).halts, omega (arith, told, less)) in
            omega (arith, low, cost, costs);
      }

  pub none_enough : (d : Interval) → AllTellMore is most → NoneIsEnough v cs limit most
  none_enough d all n t =
      let g = h.enough n t.0 in
      let b = begun is d g.0 g.1 in
      let there = h.intervals b.at d b.within in
      let told : (get_or is b.at d).things ≡ things_at v g.0 cs = there.things ∙ ap (λ z. things_at v z cs) b.first in
      let more = all b.at d b.within in
      let one = g.2.0 in
      let few = t.1 in
      absurd (omega (arith, told, more, one, few))

  pub none_of : NoneIsEnough v cs limit most → AllTellMore is most
  none_of none = λ k d l.
      elim (cases_lt most (get_or is k d).things) [
        | inl more ↦ more
        | inr few ↦
            let told = (h.intervals k d l).things in
            absurd (none (get_or is k d).first ((h.best k d l).halts, omega (arith, told, few)))
      ]

  pub one_cheapest : (i j : Interval) → IsCheapest is most i → IsCheapest is most j → i ≡ j
  one_cheapest i j c d =
      let a = enough_at i c in
      let b = enough_at j d in
      let x = a.enough in
      let y = b.enough in
      let low = x.cheapest j.first (y.best.halts, y.few) in
      let high = y.cheapest i.first (x.best.halts, x.few) in
      elim (cases_lt (things_at v i.first cs) (things_at v j.first cs)) [
        | inl less ↦
            let back = (y.best.best i.first x.best.halts (omega (arith, less), low)).0.0 in
            absurd (omega (arith, less, back))
        | inr more ↦
            let forth = x.best.best j.first y.best.halts (more, high) in
            let back = y.best.best i.first x.best.halts forth.0 in
            let up = forth.1 in
            let down = back.1 in
            one_interval v cs i j a.interval b.interval (omega (arith, up, down))
      ]

pub not_both : (is : List Interval) (most : ℕ) (i : Interval) → IsCheapest is most i → AllTellMore is most → ⊥
not_both is most i c all =
    let k : ℕ = c.there.0 in
    let l : k < length is = c.there.1.0 in
    let more : most < i.things = subst (λ (z : Interval). most < z.things) (sym c.there.1.1) (all k i l) in
    let few = c.few in
    omega (arith, more, few)

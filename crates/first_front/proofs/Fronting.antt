-- The intervals that no other one beats begin with the best choices.
use Rattle.std.proofs.Common.{◌≡◌, ℕ, zero, suc, ◌+◌, ◌*◌, ◌^◌, ◌≤◌, ◌<◌, List, arith, ap, sym}
use Rattle.std.proofs.Common.{◌∙◌, subst, true, false, not, ◌&&◌, ◌||◌, leb, ltb, inl, inr, ◌⊎◌, eqb}
use Rattle.std.specs.Cmp.Lexicographic.{pointwise}
use Rattle.std.specs.Set.{distinct_count}
use Rattle.std.proofs.lemmas.Bool.{cases_Bool, and_parts, and_from, or_cases, or_parts, leb-true}
use Rattle.std.proofs.lemmas.Bool.{ltb-true, ltb-false, le-leb, not-true, not_from_false, both_ways}
use Rattle.first_front.specs.declared.class.Class.{Class}
use Rattle.first_front.specs.declared.class.Varied.{Varied}
use Rattle.first_front.specs.declared.interval.Interval.{Interval}
use Rattle.first_front.specs.Told.{things_at, cost_at}
use Rattle.first_front.specs.Intervals.{IsInterval, Covers}
use Rattle.first_front.specs.Front.{Halts, IsAsGood, IsBest, BeginsAt, IsFront}
use Rattle.first_front.specs.Chosen.{beats, is_beaten, is_chosen, chosen}
use Rattle.first_front.proofs.Members.{In, all_in, among, any_passes, none_passes, in_filter, of_filter}
use Rattle.first_front.proofs.Constant.{shows_same}
use Rattle.first_front.proofs.Covering.{covers_in, covers_find, covers_ascend}

-- what it is to be beaten
pub record Beaten (limit : ℕ) (m n : Interval) : Type 0 where
  pub halts : m.latest ≤ limit
  pub things : m.things ≤ n.things
  pub cost : m.cost ≤ n.cost
  pub less : (m.things < n.things) ⊎ ((m.cost < n.cost) ⊎ (m.first < n.first))

beaten : (limit : ℕ) (m n : Interval) → beats limit m n ≡ true → Beaten limit m n
beaten limit m n h =
    let some = ltb m.things n.things || (ltb m.cost n.cost || ltb m.first n.first) in
    let a = and_parts (leb m.latest limit) (leb m.things n.things && (leb m.cost n.cost && some)) h in
    let b = and_parts (leb m.things n.things) (leb m.cost n.cost && some) a.1 in
    let c = and_parts (leb m.cost n.cost) some b.1 in
    record {
      halts = leb-true m.latest limit a.0;
      things = leb-true m.things n.things b.0;
      cost = leb-true m.cost n.cost c.0;
      less = elim (or_cases (ltb m.things n.things) (ltb m.cost n.cost || ltb m.first n.first) c.1) [
        | inl e ↦ inl (ltb-true m.things n.things e)
        | inr e ↦ elim (or_cases (ltb m.cost n.cost) (ltb m.first n.first) e) [
          | inl f ↦ inr (inl (ltb-true m.cost n.cost f))
          | inr f ↦ inr (inr (ltb-true m.first n.first f))
        ]
      ];
    }

-- what does not beat it though it tells and costs no more tells and costs the same, and is no less
pub record NoLess (m n : Interval) : Type 0 where
  pub things : n.things ≤ m.things
  pub cost : n.cost ≤ m.cost
  pub first : n.first ≤ m.first

unbeaten : (limit : ℕ) (m n : Interval) → beats limit m n ≡ false → m.latest ≤ limit → m.things ≤ n.things → m.cost ≤ n.cost → NoLess m n
unbeaten limit m n h halts things cost =
    let some = ltb m.things n.things || (ltb m.cost n.cost || ltb m.first n.first) in
    elim (cases_Bool some) [
      | inl e ↦ absurd (both_ways (beats limit m n) h
          (and_from (leb m.latest limit) (leb m.things n.things && (leb m.cost n.cost && some)) (le-leb m.latest limit halts)
          (and_from (leb m.things n.things) (leb m.cost n.cost && some) (le-leb m.things n.things things)
          (and_from (leb m.cost n.cost) some (le-leb m.cost n.cost cost) e))))
      | inr e ↦
          let a = or_parts (ltb m.things n.things) (ltb m.cost n.cost || ltb m.first n.first) e in
          let b = or_parts (ltb m.cost n.cost) (ltb m.first n.first) a.1 in
          record { things = ltb-false m.things n.things a.0; cost = ltb-false m.cost n.cost b.0; first = ltb-false m.first n.first b.1 }
    ]

-- what gets less with each one that beats it
weight : Interval → ℕ
weight i = (i.things + i.cost) * (2 ^ 40 + 1) + i.first

lighter : (limit : ℕ) (m n : Interval) → m.first ≤ 2 ^ 40 → Beaten limit m n → weight m < weight n
unfolding weight
lighter limit m n within b =
    let things = b.things in
    let cost = b.cost in
    elim b.less [
      | inl l ↦ omega (arith, things, cost, l, within)
      | inr r ↦ elim r [
        | inl l ↦ omega (arith, things, cost, l, within)
        | inr l ↦ omega (arith, things, cost, l, within)
      ]
    ]

-- one that is chosen and is as good
pub record Better (limit : ℕ) (is : List Interval) (m : Interval) : Type 0 where
  pub one : Interval
  pub there : In one (chosen limit is)
  pub things : one.things ≤ m.things
  pub cost : one.cost ≤ m.cost

better : (fuel limit : ℕ) (is : List Interval) (m : Interval) → weight m < fuel → ((i : Interval) → In i is → i.first ≤ 2 ^ 40) → In m is →
    m.latest ≤ limit → Better limit is m
better zero limit is m h within there halts = absurd (omega (arith, h))
better (suc fuel) limit is m h within there halts =
    elim (cases_Bool (is_beaten limit is m)) [
      | inl e ↦
          let p = any_passes (λ x. beats limit x m) is e in
          let b = beaten limit p.one m p.yes in
          let l = lighter limit p.one m (within p.one p.there) b in
          let r = better fuel limit is p.one (omega (arith, l, h)) within p.there b.halts in
          let things = b.things in
          let cost = b.cost in
          record { one = r.one; there = r.there; things = omega (arith, r.things, things); cost = omega (arith, r.cost, cost) }
      | inr e ↦ record {
        one = m;
        there = in_filter (λ n. is_chosen limit is n) is m there
            (and_from (leb m.latest limit) (not (is_beaten limit is m)) (le-leb m.latest limit halts) (not_from_false (is_beaten limit is m) e));
        things = omega arith;
        cost = omega arith;
      }
    ]

-- an interval of the walk that a choice with which all runs end lies in
pub record Home (v : Varied) (cs : List Class) (limit : ℕ) (is : List Interval) (n : ℕ) : Type 0 where
  pub one : Interval
  pub there : In one is
  pub interval : IsInterval v cs one
  pub from : one.first ≤ n
  pub halts : one.latest ≤ limit
  pub things : one.things ≡ things_at v n cs
  pub cost : one.cost ≤ cost_at v n cs

home : (v : Varied) (cs : List Class) (limit : ℕ) (is : List Interval) (n : ℕ) → Covers v cs 1 is (2 ^ 40 + 1) → Halts v cs limit n →
    Home v cs limit is n
home v cs limit is n all h =
    let f = covers_find v cs 1 (2 ^ 40 + 1) is n all h.0.0 (omega (arith, h.0.1)) in
    let i = f.interval in
    let low = i.cheapest n f.from f.to in
    let same = i.last.same n f.from f.to in
    record {
      one = f.one;
      there = f.there;
      interval = i;
      from = f.from;
      halts = omega (arith, i.latest, low.1, h.1);
      things = i.things ∙ sym (ap (distinct_count (pointwise eqb)) (shows_same v f.one.first n cs i.some f.from same));
      cost = omega (arith, i.cost, low.0);
    }

-- one that is chosen
pub record Chosen (v : Varied) (cs : List Class) (limit : ℕ) (is : List Interval) (n : Interval) : Type 0 where
  pub interval : IsInterval v cs n
  pub best : IsBest v cs limit n.first

chosen_best : (v : Varied) (cs : List Class) (limit : ℕ) (is : List Interval) (n : Interval) → Covers v cs 1 is (2 ^ 40 + 1) →
    In n (chosen limit is) → Chosen v cs limit is n
chosen_best v cs limit is n all there =
    let k = of_filter (λ x. is_chosen limit is x) is n there in
    let yes = and_parts (leb n.latest limit) (not (is_beaten limit is n)) k.yes in
    let i = covers_in v cs 1 (2 ^ 40 + 1) is n all k.there in
    let halts = leb-true n.latest limit yes.0 in
    let none = not-true (is_beaten limit is n) yes.1 in
    let within = i.last.within in
    let from = i.last.from in
    record {
      interval = i;
      best = record {
        halts = ((i.some, omega (arith, from, within)), omega (arith, halts, i.latest));
        best = λ m hm good.
            let j = home v cs limit is m all hm in
            let first = good.0 in
            let second = good.1 in
            let u = unbeaten limit j.one n (none_passes (λ x. beats limit x n) is j.one none j.there) j.halts
            (omega (arith, j.things, i.things, first)) (omega (arith, j.cost, i.cost, second)) in
            ((omega (arith, u.things, j.things, i.things), omega (arith, u.cost, j.cost, i.cost)), omega (arith, u.first, j.from));
      };
    }

-- one that is chosen and as good as a choice
pub record Enough (v : Varied) (cs : List Class) (limit : ℕ) (is : List Interval) (n : ℕ) : Type 0 where
  pub one : Interval
  pub there : In one (chosen limit is)
  pub good : IsAsGood v cs one.first n

enough : (v : Varied) (cs : List Class) (limit : ℕ) (is : List Interval) (n : ℕ) → Covers v cs 1 is (2 ^ 40 + 1) → Halts v cs limit n →
    Enough v cs limit is n
enough v cs limit is n all h =
    let j = home v cs limit is n all h in
    let short : (i : Interval) → In i is → i.first ≤ 2 ^ 40 = λ i m.
    let p = covers_in v cs 1 (2 ^ 40 + 1) is i all m in let a = p.last.from in let b = p.last.within in omega (arith, a, b) in
    let b = better (suc (weight j.one)) limit is j.one (omega arith) short j.there j.halts in
    let i = (chosen_best v cs limit is b.one all b.there).interval in
    record {
      one = b.one;
      there = b.there;
      good = (omega (arith, b.things, j.things, i.things), omega (arith, b.cost, j.cost, i.cost));
    }

pub is_front : (v : Varied) (cs : List Class) (limit : ℕ) (is : List Interval) → Covers v cs 1 is (2 ^ 40 + 1) →
    IsFront v cs limit (chosen limit is)
is_front v cs limit is all = record {
  short = λ n first. let f = covers_find v cs 1 (2 ^ 40 + 1) is n all first.0 (omega (arith, first.1)) in f.interval.short n f.from f.to;
  ascends = covers_ascend v cs 1 (2 ^ 40 + 1) is (λ n. is_chosen limit is n) all;
  intervals = all_in (IsInterval v cs) (chosen limit is) (λ i m. (chosen_best v cs limit is i all m).interval);
  best = all_in (λ i. IsBest v cs limit i.first) (chosen limit is) (λ i m. (chosen_best v cs limit is i all m).best);
  each = λ n best.
      let e = enough v cs limit is n all best.halts in
      let b = (chosen_best v cs limit is e.one all e.there).best in
      let one = best.best e.one.first b.halts e.good in
      let two = b.best n best.halts one.0 in
      let up = one.1 in
      let down = two.1 in
      let same : e.one.first ≡ n = omega (arith, up, down) in
      subst (λ z. BeginsAt (chosen limit is) z) same (among (λ i. i.first) (chosen limit is) e.one e.there);
  enough = λ n h.
      let e = enough v cs limit is n all h in (e.one.first, among (λ i. i.first) (chosen limit is) e.one e.there, e.good);
}

-- Classes that tell and cost the same have the same front.
use Rattle.std.proofs.Common.{◌≡◌, ℕ, List, get_or, arith, sym, ◌∙◌}
use Rattle.first_front.specs.declared.class.Class.{Class}
use Rattle.first_front.specs.declared.class.Varied.{Varied}
use Rattle.first_front.specs.declared.interval.Interval.{Interval}
use Rattle.first_front.specs.Told.{tells, things_at, cost_at, latest_at}
use Rattle.first_front.specs.Intervals.{IsInterval, IsTooLong}
use Rattle.first_front.specs.Front.{Halts, IsAsGood, IsBest, IsFront}
use Rattle.first_front.proofs.Single.{one_front}

-- with each first prediction they tell and cost the same, and the same ones have all miss counts in common
pub record AreAlike (v : Varied) (cs : List Class) (w : Varied) (ds : List Class) : Type 0 where
  pub things : (n : ℕ) → things_at v n cs ≡ things_at w n ds
  pub cost : (n : ℕ) → cost_at v n cs ≡ cost_at w n ds
  pub latest : (n : ℕ) → latest_at v n cs ≡ latest_at w n ds
  pub same : (n m : ℕ) → tells v n cs ≡ tells v m cs → tells w n ds ≡ tells w m ds
  pub back : (n m : ℕ) → tells w n ds ≡ tells w m ds → tells v n cs ≡ tells v m cs

turned : (v : Varied) (cs : List Class) (w : Varied) (ds : List Class) → AreAlike v cs w ds → AreAlike w ds v cs
turned v cs w ds a = record {
  things = λ n. sym (a.things n);
  cost = λ n. sym (a.cost n);
  latest = λ n. sym (a.latest n);
  same = a.back;
  back = a.same;
}

interval_alike : (v : Varied) (cs : List Class) (w : Varied) (ds : List Class) → AreAlike v cs w ds → (i : Interval) → IsInterval v cs i → IsInterval w ds i
interval_alike v cs w ds a i h = record {
  some = h.some;
  last = record {
    from = h.last.from;
    within = h.last.within;
    same = λ n from to. a.same n i.first (h.last.same n from to);
    more = λ n above top e. h.last.more n above top (a.back n i.first e);
  };
  things = h.things ∙ a.things i.first;
  cost = h.cost ∙ a.cost i.first;
  latest = h.latest ∙ a.latest i.first;
  cheapest = λ n from to.
      let k = h.cheapest n from to in
      let c = a.cost n in
      let d = a.cost i.first in
      let e = a.latest n in
      let f = a.latest i.first in
      let one = k.0 in
      let two = k.1 in
      (omega (arith, one, c, d), omega (arith, two, e, f));
  short = λ n from to. let k = h.short n from to in let e = a.latest n in omega (arith, k, e);
}

halts_alike : (v : Varied) (cs : List Class) (w : Varied) (ds : List Class) → AreAlike v cs w ds → (limit n : ℕ) → Halts v cs limit n → Halts w ds limit n
halts_alike v cs w ds a limit n h = let e = a.latest n in let k = h.1 in (h.0, omega (arith, e, k))

good_alike : (v : Varied) (cs : List Class) (w : Varied) (ds : List Class) → AreAlike v cs w ds → (m n : ℕ) → IsAsGood v cs m n → IsAsGood w ds m n
good_alike v cs w ds a m n h =
    let c = a.things m in
    let d = a.things n in
    let e = a.cost m in
    let f = a.cost n in
    let one = h.0 in
    let two = h.1 in
    (omega (arith, one, c, d), omega (arith, two, e, f))

best_alike : (v : Varied) (cs : List Class) (w : Varied) (ds : List Class) → AreAlike v cs w ds → (limit n : ℕ) → IsBest v cs limit n → IsBest w ds limit n
best_alike v cs w ds a limit n h =
    let b = turned v cs w ds a in
    record {
      halts = halts_alike v cs w ds a limit n h.halts;
      best = λ m halts good.
          let k = h.best m (halts_alike w ds v cs b limit m halts) (good_alike w ds v cs b m n good) in
          (good_alike v cs w ds a n m k.0, k.1);
    }

pub front_alike : (v : Varied) (cs : List Class) (w : Varied) (ds : List Class) → AreAlike v cs w ds → (limit : ℕ) (is : List Interval) →
    IsFront v cs limit is → IsFront w ds limit is
front_alike v cs w ds a limit is h =
    let b = turned v cs w ds a in
    record {
      short = λ n first. let k = h.short n first in let e = a.latest n in omega (arith, k, e);
      ascends = h.ascends;
      intervals = λ k d l. interval_alike v cs w ds a (get_or is k d) (h.intervals k d l);
      best = λ k d l. best_alike v cs w ds a limit (get_or is k d).first (h.best k d l);
      each = λ n best. h.each n (best_alike w ds v cs b limit n best);
      enough = λ n halts.
          let k = h.enough n (halts_alike w ds v cs b limit n halts) in (k.0, k.1, good_alike v cs w ds a k.0 n k.2);
    }

-- so there is one front, and no run is too long by the others
pub one_front_alike : (v : Varied) (cs : List Class) (w : Varied) (ds : List Class) → AreAlike v cs w ds → (limit : ℕ) (is js : List Interval) →
    IsFront v cs limit is → IsFront w ds limit js → is ≡ js
one_front_alike v cs w ds a limit is js h k = (one_front w ds limit is (front_alike v cs w ds a limit is h)).0 js k

pub not_too_long : (v : Varied) (cs : List Class) (w : Varied) (ds : List Class) → AreAlike v cs w ds → (limit : ℕ) (is : List Interval) →
    IsFront v cs limit is → IsTooLong w ds → ⊥
not_too_long v cs w ds a limit is h late = (one_front w ds limit is (front_alike v cs w ds a limit is h)).1 late

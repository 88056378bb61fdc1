-- Where all miss counts are the same with two first predictions, they are with each between, and the least costs least.
use Rattle.std.proofs.Common.{◌≡◌, ◌≢◌, ℕ, ◌-◌, ◌*◌, ◌^◌, ◌≤◌, ◌<◌, List, [], ◌∷◌, arith, ap, sym, ◌∙◌, refl}
use Rattle.std.proofs.Math.Nat.{mul-le-mul_left}
use Rattle.std.proofs.lemmas.List.Sums.{sum_by-cons}
use Rattle.run_entries.specs.Entries.{entries_of, pushed_by}
use Rattle.run_entries.specs.Told.{every, is_marked}
use Rattle.first_walk.proofs.Between.{told_between}
use Rattle.first_front.specs.declared.class.Class.{Class}
use Rattle.first_front.specs.declared.class.Varied.{Varied}
use Rattle.first_front.specs.Told.{told_at, shown_at, tells, shows, cost_at, latest_at}
use Rattle.first_front.specs.Intervals.{IsLast}
use Rattle.first_front.proofs.Summing.{end_of}

-- what lies between, of one class
record Between (v : Varied) (c : Class) (low n : ℕ) : Type 0 where
  pub told : told_at v n (entries_of c.entries.items) ≡ told_at v low (entries_of c.entries.items)
  pub shown : shown_at v n (entries_of c.entries.items) ≡ shown_at v low (entries_of c.entries.items)
  pub later : end_of v low c ≤ end_of v n c

one_between : (v : Varied) (c : Class) (low n high : ℕ) → 1 ≤ low → low ≤ n → n ≤ high →
    told_at v low (entries_of c.entries.items) ≡ told_at v high (entries_of c.entries.items) → Between v c low n
one_between v c low n high one l k e =
    let h = told_between (pushed_by v.written.now) v.place low n high (entries_of c.entries.items) one l k e in
    record { told = h.0 every; shown = h.0 (is_marked v.relevant.now); later = h.1 }

pub tells_between : (v : Varied) (low n high : ℕ) (cs : List Class) → 1 ≤ low → low ≤ n → n ≤ high → tells v low cs ≡ tells v high cs →
    tells v n cs ≡ tells v low cs
tells_between v low n high [] one l k e = refl
tells_between v low n high (c ∷ cs) one l k e =
    let head : told_at v low (entries_of c.entries.items) ≡ told_at v high (entries_of c.entries.items) = cc in
    let tail : tells v low cs ≡ tells v high cs = cc in
    ap (λ z. z ∷ tells v n cs) (one_between v c low n high one l k head).told
    ∙ ap (λ z. told_at v low (entries_of c.entries.items) ∷ z) (tells_between v low n high cs one l k tail)

-- with the same miss counts the same are shown
pub shows_same : (v : Varied) (low n : ℕ) (cs : List Class) → 1 ≤ low → low ≤ n → tells v n cs ≡ tells v low cs → shows v n cs ≡ shows v low cs
shows_same v low n [] one l e = refl
shows_same v low n (c ∷ cs) one l e =
    let head : told_at v low (entries_of c.entries.items) ≡ told_at v n (entries_of c.entries.items) = cc in
    let tail : tells v n cs ≡ tells v low cs = cc in
    ap (λ z. z ∷ shows v n cs) (one_between v c low n n one l (omega arith) head).shown
    ∙ ap (λ z. shown_at v low (entries_of c.entries.items) ∷ z) (shows_same v low n cs one l tail)

pub no_cheaper : (v : Varied) (low n : ℕ) (cs : List Class) → 1 ≤ low → low ≤ n → tells v n cs ≡ tells v low cs →
    (cost_at v low cs ≤ cost_at v n cs) × (latest_at v low cs ≤ latest_at v n cs)
no_cheaper v low n [] one l e = (omega arith, omega arith)
no_cheaper v low n (c ∷ cs) one l e =
    let head : told_at v low (entries_of c.entries.items) ≡ told_at v n (entries_of c.entries.items) = cc in
    let tail : tells v n cs ≡ tells v low cs = cc in
    let later = (one_between v c low n n one l (omega arith) head).later in
    let rest = no_cheaper v low n cs one l tail in
    let more = mul-le-mul_left c.starts later in
    let a = sum_by-cons (λ x. x.starts * end_of v low x) c cs in
    let b = sum_by-cons (λ x. x.starts * end_of v n x) c cs in
    (omega (arith, rest.0, more, a, b), omega (arith, rest.1, later))

-- the last first prediction with these miss counts is from low on and at most high
pub record Halved (v : Varied) (cs : List Class) (first low high : ℕ) : Type 0 where
  pub from : first ≤ low
  pub order : low ≤ high
  pub within : high ≤ 2 ^ 40
  pub same : tells v low cs ≡ tells v first cs
  pub more : (n : ℕ) → high < n → n ≤ 2 ^ 40 → tells v n cs ≢ tells v first cs

pub halved_low : (v : Varied) (cs : List Class) (first low high middle : ℕ) → Halved v cs first low high → low ≤ middle → middle ≤ high →
    tells v middle cs ≡ tells v first cs → Halved v cs first middle high
halved_low v cs first low high middle h l k same =
    record { from = omega (arith, h.from, l); order = k; within = h.within; same = same; more = h.more }

pub halved_high : (v : Varied) (cs : List Class) (first low high middle : ℕ) → 1 ≤ first → Halved v cs first low high → low < middle → middle ≤ high →
    tells v middle cs ≢ tells v first cs → Halved v cs first low (middle - 1)
halved_high v cs first low high middle one h l k differ =
    record {
      from = h.from;
      order = omega (arith, l);
      within = omega (arith, k, h.within);
      same = h.same;
      more = λ n above top same. differ (tells_between v first middle n cs one (omega (arith, h.from, l)) (omega (arith, above, l)) (sym same));
    }

pub halved_last : (v : Varied) (cs : List Class) (first low high : ℕ) → 1 ≤ first → Halved v cs first low high → high ≤ low → IsLast v cs first low
halved_last v cs first low high one h k =
    let e : low ≡ high = omega (arith, h.order, k) in
    record {
      from = h.from;
      within = omega (arith, h.order, h.within);
      same = λ n a b. tells_between v first n low cs one a b (sym h.same);
      more = λ n above top. h.more n (omega (arith, above, e)) top;
    }

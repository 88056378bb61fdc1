-- The runs of the first so many classes.
use Rattle.std.proofs.Common.{◌≡◌, ℕ, ◌+◌, ◌-◌, ◌*◌, ◌^◌, ◌≤◌, ◌<◌, List, [], ◌∷◌, ◌++◌, take, map, length, get_or, max, zero, suc, arith, ap, sym, ◌∙◌, subst}
use Rattle.std.specs.List.{sum_by}
use Rattle.std.proofs.lemmas.List.{take_more, take_all, map-append}
use Rattle.std.proofs.lemmas.List.Sums.{sum_by_more, sum_by_more_le}
use Rattle.std.proofs.Math.Nat.{mul-le-mul_left}
use Rattle.run_entries.specs.declared.entry.Entry.{Entry as Kept}
use Rattle.run_entries.specs.Entries.{entries_of}
use Rattle.first_front.specs.declared.class.Class.{Class}
use Rattle.first_front.specs.declared.class.Varied.{Varied}
use Rattle.first_front.specs.declared.outcome.Outcome.{Outcome}
use Rattle.first_front.specs.Told.{told_at, shown_at, end_at, tells, shows, cost_at, latest_at, IsOutcome}

-- what the first so many classes tell and cost
pub record Summed (v : Varied) (n : ℕ) (cs : List Class) (i : ℕ) (lists some : List (List ℕ)) (sum last : ℕ) : Type 0 where
  pub counts : lists ≡ tells v n (take i cs)
  pub shown : some ≡ shows v n (take i cs)
  pub cost : sum ≡ cost_at v n (take i cs)
  pub latest : last ≡ latest_at v n (take i cs)
  pub short : last ≤ 2 ^ 64 - 1
  pub bounded : sum ≤ sum_by (λ c. c.starts) (take i cs) * (2 ^ 64 - 1)

-- one class more
abbrev pub end_of : Varied → ℕ → Class → ℕ
end_of v n c = end_at v n (entries_of c.entries.items)

tells_more : (v : Varied) (n : ℕ) (cs : List Class) (i : ℕ) (d : Class) → i < length cs →
    tells v n (take (i + 1) cs) ≡ tells v n (take i cs) ++ told_at v n (entries_of (get_or cs i d).entries.items) ∷ []
tells_more v n cs i d h =
    ap (tells v n) (take_more cs i d h) ∙ map-append (λ c. told_at v n (entries_of c.entries.items)) (take i cs) (get_or cs i d ∷ [])

shows_more : (v : Varied) (n : ℕ) (cs : List Class) (i : ℕ) (d : Class) → i < length cs →
    shows v n (take (i + 1) cs) ≡ shows v n (take i cs) ++ shown_at v n (entries_of (get_or cs i d).entries.items) ∷ []
shows_more v n cs i d h =
    ap (shows v n) (take_more cs i d h) ∙ map-append (λ c. shown_at v n (entries_of c.entries.items)) (take i cs) (get_or cs i d ∷ [])

latest_push : (v : Varied) (n : ℕ) (cs : List Class) (c : Class) → latest_at v n (cs ++ c ∷ []) ≡ max (latest_at v n cs) (end_of v n c)
latest_push v n [] c = let e : max (end_of v n c) 0 ≡ max 0 (end_of v n c) = omega arith in e
latest_push v n (x ∷ cs) c =
    let e = latest_push v n cs c in
    let f : max (end_of v n x) (latest_at v n (cs ++ c ∷ [])) ≡ max (max (end_of v n x) (latest_at v n cs)) (end_of v n c) = omega (arith, e) in f

latest_more : (v : Varied) (n : ℕ) (cs : List Class) (i : ℕ) (d : Class) → i < length cs →
    latest_at v n (take (i + 1) cs) ≡ max (latest_at v n (take i cs)) (end_of v n (get_or cs i d))
latest_more v n cs i d h = ap (latest_at v n) (take_more cs i d h) ∙ latest_push v n (take i cs) (get_or cs i d)

-- a run ends no later than the last of all
pub end_in : (v : Varied) (n : ℕ) (cs : List Class) (i : ℕ) (d : Class) → i < length cs → end_of v n (get_or cs i d) ≤ latest_at v n cs
end_in v n [] i d h = absurd (omega (arith, h))
end_in v n (c ∷ cs) zero d h = omega arith
end_in v n (c ∷ cs) (suc i) d h = let k = end_in v n cs i d (omega (arith, h)) in omega (arith, k)

-- no more than every start's run ends last of all
bounded_more : (s w sum end : ℕ) → sum ≤ s * (2 ^ 64 - 1) → end ≤ 2 ^ 64 - 1 → sum + w * end ≤ (s + w) * (2 ^ 64 - 1)
bounded_more s w sum end h k = let up : w * end ≤ w * (2 ^ 64 - 1) = mul-le-mul_left w k in omega (arith, h, up)

pub cost_fits : (v : Varied) (n : ℕ) (cs : List Class) (i : ℕ) (c : Class) (lists shown : List (List ℕ)) (sum last end : ℕ) → i < length cs →
    c ≡ get_or cs i c → Summed v n cs i lists shown sum last → end ≤ 2 ^ 64 - 1 → sum_by (λ x. x.starts) cs < 2 ^ 64 → sum + c.starts * end < 2 ^ 128
cost_fits v n cs i c lists shown sum last end h is s fits few =
    let more = bounded_more (sum_by (λ x. x.starts) (take i cs)) c.starts sum end s.bounded fits in
    let part = sum_by_more_le (λ x. x.starts) cs i c h in
    let one : c.starts ≡ (get_or cs i c).starts = ap (λ x. x.starts) is in
    omega (arith, more, part, one, few)

pub summed_more : (v : Varied) (n : ℕ) (cs : List Class) (i : ℕ) (c : Class) (lists new shown more : List (List ℕ)) (sum last end later : ℕ) → i < length cs →
    c ≡ get_or cs i c → Summed v n cs i lists shown sum last → new ≡ lists ++ told_at v n (entries_of c.entries.items) ∷ [] →
    more ≡ shown ++ shown_at v n (entries_of c.entries.items) ∷ [] → end ≡ end_of v n c →
    end ≤ 2 ^ 64 - 1 → later ≡ max last end → Summed v n cs (i + 1) new more (sum + c.starts * end) later
summed_more v n cs i c lists new shown more sum last end later h is s e k ends fits last_is =
    let f : Class → ℕ = λ x. x.starts * end_of v n x in
    let further = sum_by_more f cs i c h in
    let same : c.starts * end ≡ f (get_or cs i c) = ap (λ z. c.starts * z) ends ∙ ap f is in
    let greater = latest_more v n cs i c h in
    let end_is : end_of v n c ≡ end_of v n (get_or cs i c) = ap (end_of v n) is in
    let starts = sum_by_more (λ x. x.starts) cs i c h in
    let one : c.starts ≡ (get_or cs i c).starts = ap (λ x. x.starts) is in
    let up = bounded_more (sum_by (λ x. x.starts) (take i cs)) c.starts sum end s.bounded fits in
    let total : sum_by (λ x. x.starts) (take i cs) + c.starts ≡ sum_by (λ x. x.starts) (take (i + 1) cs) = omega (arith, starts, one) in
    record {
      counts = e
          ∙ (ap (λ z. z ++ told_at v n (entries_of c.entries.items) ∷ []) s.counts
          ∙ (ap (λ z. tells v n (take i cs) ++ told_at v n (entries_of z.entries.items) ∷ []) is ∙ sym (tells_more v n cs i c h)));
      shown = k
          ∙ (ap (λ z. z ++ shown_at v n (entries_of c.entries.items) ∷ []) s.shown
          ∙ (ap (λ z. shows v n (take i cs) ++ shown_at v n (entries_of z.entries.items) ∷ []) is ∙ sym (shows_more v n cs i c h)));
      cost = ap (λ z. z + c.starts * end) s.cost ∙ (ap (λ z. cost_at v n (take i cs) + z) same ∙ sym further);
      latest = omega (arith, greater, end_is, last_is, s.latest, ends);
      short = omega (arith, s.short, last_is, fits);
      bounded = subst (λ z. sum + c.starts * end ≤ z * (2 ^ 64 - 1)) total up;
    }

pub too_late : (v : Varied) (n : ℕ) (cs : List Class) (i : ℕ) (c : Class) (es : List Kept) → i < length cs → c ≡ get_or cs i c → es ≡ c.entries.items →
    2 ^ 64 - 1 < end_at v n (entries_of es) → 2 ^ 64 - 1 < latest_at v n cs
too_late v n cs i c es h is same late =
    let last = end_in v n cs i c h in
    let one : end_of v n c ≡ end_of v n (get_or cs i c) = ap (end_of v n) is in
    let two : end_at v n (entries_of es) ≡ end_of v n c = ap (λ z. end_at v n (entries_of z)) same in
    omega (arith, last, one, two, late)

pub listed : {X : Type 0} (f : X → List ℕ) (xs ys : List X) (x : X) (t : List ℕ) → ys ≡ xs ++ x ∷ [] → f x ≡ t → map f ys ≡ map f xs ++ t ∷ []
listed f xs ys x t e same = ap (map f) e ∙ (map-append f xs (x ∷ []) ∙ ap (λ z. map f xs ++ z ∷ []) same)

pub all_summed : (v : Varied) (n : ℕ) (cs : List Class) (i : ℕ) (o : Outcome) → length cs ≤ i →
    Summed v n cs i (map (λ x. x.items) o.counts.items) (map (λ x. x.items) o.shown.items) o.cost o.latest → IsOutcome v cs n o
all_summed v n cs i o le s =
    let all : take i cs ≡ cs = take_all i cs le in
    record {
      counts = s.counts ∙ ap (tells v n) all;
      shown = s.shown ∙ ap (shows v n) all;
      cost = s.cost ∙ ap (cost_at v n) all;
      latest = s.latest ∙ ap (latest_at v n) all;
      short = s.short;
    }

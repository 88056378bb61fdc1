-- What runs tell and cost with a first prediction of one mitigate, all others being kept.
use Rattle.std.specs.Prelude.{◌≡◌, ◌≤◌, ◌*◌, ◌-◌, ◌^◌, ℕ, List, [], ◌∷◌, map, ℤ, pos, max}
use Rattle.std.specs.List.{sum_by}
use Rattle.std.specs.Cmp.Lexicographic.{pointwise}
use Rattle.std.specs.Prelude.{eqb}
use Rattle.std.specs.Set.{distinct_count}
use Rattle.first_replay.specs.Replay.{Entry}
use Rattle.run_entries.specs.Entries.{entries_of, pushed_by, with_number}
use Rattle.run_entries.specs.Told.{every, is_marked, replayed, told}
use Rattle.first_front.specs.declared.class.Class.{Class}
use Rattle.first_front.specs.declared.class.Varied.{Varied}
use Rattle.first_front.specs.declared.outcome.Outcome.{Outcome}

-- the numbers that are pushed, with this first prediction
abbrev pub with_first : Varied → ℕ → ℕ → ℤ
with_first v n = with_number (pushed_by v.written.now) v.place (pos n)

-- the miss counts of all mitigations of a run with a first prediction, and of those that are told apart
abbrev pub told_at : Varied → ℕ → List Entry → List ℕ
told_at v n es = told every (with_first v n) es

abbrev pub shown_at : Varied → ℕ → List Entry → List ℕ
shown_at v n es = told (is_marked v.relevant.now) (with_first v n) es

-- its last cycle
abbrev pub end_at : Varied → ℕ → List Entry → ℕ
end_at v n es = (replayed (with_first v n) es).clock

-- the same of the runs of each class
abbrev pub tells : Varied → ℕ → List Class → List (List ℕ)
tells v n cs = map (λ c. told_at v n (entries_of c.entries.items)) cs

abbrev pub shows : Varied → ℕ → List Class → List (List ℕ)
shows v n cs = map (λ c. shown_at v n (entries_of c.entries.items)) cs

-- how many different lists there are of miss counts that are told apart
abbrev pub things_at : Varied → ℕ → List Class → ℕ
things_at v n cs = distinct_count (pointwise eqb) (shows v n cs)

-- the last cycles of the runs of all starts, summed up
abbrev pub cost_at : Varied → ℕ → List Class → ℕ
cost_at v n cs = sum_by (λ c. c.starts * end_at v n (entries_of c.entries.items)) cs

-- the last cycle of the run that ends last
abbrev pub latest_at : Varied → ℕ → List Class → ℕ
latest_at v n [] = 0
latest_at v n (c ∷ cs) = max (end_at v n (entries_of c.entries.items)) (latest_at v n cs)

-- it tells all runs with this first prediction
pub record IsOutcome (v : Varied) (cs : List Class) (n : ℕ) (o : Outcome) : Type 0 where
  pub counts : map (λ x. x.items) o.counts.items ≡ tells v n cs
  pub shown : map (λ x. x.items) o.shown.items ≡ shows v n cs
  pub cost : o.cost ≡ cost_at v n cs
  pub latest : o.latest ≡ latest_at v n cs
  pub short : o.latest ≤ 2 ^ 64 - 1

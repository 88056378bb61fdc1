-- Of starts that agree, few are told apart: by the sharp count of their records, and so within the bound.
use Rattle.std.proofs.Common.{◌≡◌, ℕ, suc, ◌+◌, ◌<◌, ◌≤◌, List, [], ◌∷◌, length, map, refl, sym, ap, ◌∙◌, subst, ◌⊎◌, inl, inr, arith}
use Rattle.std.specs.Prelude.{Bool, true, false, cond, ltb, not, ◌&&◌, ◌||◌}
use Rattle.std.proofs.lemmas.Bool.{ltb-true}
use Rattle.mit_syntax.specs.Todo.{Marked}
use Rattle.label_lattice.specs.Lattice.{Lattice}
use Rattle.label_lattice.specs.Order.{Order, lattice_of}
use Rattle.timing_types.specs.Typing.{IsTyped}
use Rattle.env_contract.specs.Env.{Env}
use Rattle.env_contract.specs.Laws.{IsLawful}
use Rattle.label_code.specs.Machine.{Event, Wrote, Began, Ended}
use Rattle.label_code.specs.Visible.{visible}
use Rattle.label_code.specs.Run.{Start, run_from}
use Rattle.label_code.specs.declared.code.Instr.{Instr}
use Rattle.leak_bound.specs.Digits.{digits}
use Rattle.leak_bound.specs.Relevant.{is_relevant, ended_count}
use Rattle.leak_bound.specs.Records.{Entry, Fits, Each, Tests, distinct_count}
use Rattle.leak_bound.specs.Rising.{sharp}
use Rattle.leak_bound.specs.Sound.{Agree, seen_from, Halts, bound, IsCompiled}
use Rattle.leak_bound.proofs.Digits.{power_digits}
use Rattle.leak_bound.proofs.Tells.{Tells, TellsOf, tells_relevant, tells_both, beyond, tells_beyond}
use Rattle.leak_bound.proofs.Few.{Each-map, count_few}
use Rattle.leak_bound.proofs.Counting.{picked, is_at, picked_length, picked_all, picked_at, none_picked, AtMost, Under, LevelsUnder, number}
use Rattle.leak_bound.proofs.Bound.{IsCounted, counted_below, counted_same, sharp_within}
use Rattle.leak_bound.proofs.Record.{Took, grows_run}
use Rattle.leak_bound.proofs.Low.{Timing, record_of}
use Rattle.leak_bound.proofs.Marks.{low_count}
use Rattle.leak_bound.proofs.Two.{Both, two_run}
use Rattle.leak_bound.proofs.Whole.{ToEnd, to_end, first_core}

-- what took its cycles ended at a miss count below the number of binary digits
digits_under : (t : ℕ) (r : List Entry) → Took t r → Under (λ l. digits t) r
digits_under t [] h = tt
digits_under t (e ∷ r) h = (power_digits e.1 t h.0, digits_under t r h.1)

pub at_most_same : (vs : ℕ → ℕ) (r : List Entry) → Under vs r → AtMost vs r
at_most_same vs r h = Each-map (λ (e : Entry). e.1 < vs e.0) (λ e. e.1 ≤ vs e.0) (λ e lt. omega arith) r h

-- where no mark is relevant, none ends
pub none_ended : (rel : ℕ → Bool) → ((k : ℕ) → rel k ≡ false) → (es : List Event) → ended_count rel es ≡ 0
none_ended rel h [] = refl
none_ended rel h (Wrote x n c ∷ es) = none_ended rel h es
none_ended rel h (Began k c ∷ es) = none_ended rel h es
none_ended rel h (Ended k c ∷ es) = ap (λ b. cond {A = ℕ} b 1 0 + ended_count rel es) (h k) ∙ omega (arith, none_ended rel h es)

module _ {E : Type 0} {serves : E → Type 0} (v : Env E) (order : Order) (g ls : ℕ → ℕ) (image : List Instr) (p : Marked) (made : IsCompiled order g ls image p)
    (laws : IsLawful v (lattice_of order) serves) where
  abbrev pub lat : Lattice
  lat = lattice_of order

  abbrev pub rel : ℕ → ℕ → Bool
  rel o = is_relevant lat g ls o p

  pub tells : (o : ℕ) → Tells lat g o (rel o) lat.bottom p
  tells o = tells_relevant lat g ls o p made.marks made.told

  pub tells_level : (o : ℕ) (pick : ℕ → Bool) → TellsOf lat g o pick (λ k. rel o k && pick (ls k)) lat.bottom p
  tells_level o pick = tells_both lat g o pick (rel o) ls lat.bottom p (tells o) made.told

  abbrev pub found : (t : ℕ) (s : Start E) → ToEnd v lat g image p made.code t s
  found t s = to_end v lat g image p made.code t s

  abbrev pub record_at : ℕ → ℕ → Start E → List Entry
  record_at o t s = record_of v lat g o t (found t s).whole.run

  abbrev pub log_at : ℕ → Start E → List Event
  log_at t s = (run_from v image t s).core.log

  -- as many relevant mitigations of picked levels ended as the record has entries of them
  pub ended_of : (o t : ℕ) (pick of : ℕ → Bool) → TellsOf lat g o pick of lat.bottom p → (s : Start E)
      → ended_count of (log_at t s) ≡ picked pick (record_at o t s)
  ended_of o t pick of tell s =
      let w = (found t s).whole in
      let c = low_count v lat made.lattice laws g o t pick of lat.bottom tell (made.lattice.lowest o) w.run in
      ap (ended_count of) w.log ∙ c ∙ omega arith

  pub ended_all : (o t : ℕ) (s : Start E) → ended_count (rel o) (log_at t s) ≡ length (record_at o t s)
  ended_all o t s = ended_of o t (λ l. true) (rel o) (tells o) s ∙ picked_all (record_at o t s)

  -- the record has no entry of a level that flows to the observer, or that is no label
  none_beyond : (o t : ℕ) (s : Start E) → picked (beyond lat o order.size) (record_at o t s) ≡ 0
  none_beyond o t s =
      sym (ended_of o t (beyond lat o order.size) (λ k. false) (tells_beyond lat g o order.size lat.bottom p made.levels) s)
      ∙ none_ended (λ k. false) (λ k. refl) (log_at t s)

  pub levels_at : (o t : ℕ) → (s : Start E) → LevelsUnder order.size (record_at o t s)
  levels_at o t s =
      Each-map (λ (e : Entry). beyond lat o order.size e.0 ≡ false) (λ e. e.0 < order.size) (λ e h. go (ltb e.0 order.size) (lat.flows e.0 o) refl h)
      (record_at o t s) (none_picked (beyond lat o order.size) (record_at o t s) (none_beyond o t s))
    where
      go : {l : ℕ} (b c : Bool) → ltb l order.size ≡ b → (not b || c) ≡ false → l < order.size
      go {l = l} true c q h = ltb-true l order.size q
      go false c q h = absurd cc

  pub none_low : (o t l : ℕ) → lat.flows l o ≡ true → (s : Start E) → picked (is_at l) (record_at o t s) ≡ 0
  none_low o t l f s =
      let here : beyond lat o order.size l ≡ true = either (not (ltb l order.size)) (lat.flows l o) f in
      omega (arith, none_beyond o t s, picked_at (beyond lat o order.size) l here (record_at o t s))
    where
      either : (a b : Bool) → b ≡ true → (a || b) ≡ true
      either true b q = refl
      either false b q = q

  abbrev pub AgreeTo : ℕ → Start E → Start E → Type 0
  AgreeTo o s s' = Agree v lat serves g o s s'

  agree_back : (o : ℕ) (s s' : Start E) → AgreeTo o s s' → AgreeTo o s' s
  agree_back o s s' a = record { one = a.other; other = a.one; long = sym a.long; low = λ x h. sym (a.low x h); parts = λ q l h. sym (a.parts q l h) }

  agree_on : (o : ℕ) (s s1 s2 : Start E) → AgreeTo o s s1 → AgreeTo o s1 s2 → AgreeTo o s s2
  agree_on o s s1 s2 a b = record {
    one = a.one;
    other = b.other;
    long = a.long ∙ b.long;
    low = λ x h. a.low x h ∙ b.low x h;
    parts =
        λ q l h. a.parts q l h ∙ b.parts q l h;
  }

  -- two runs from starts that agree, typed to this end label
  pub pair_of : (o t : ℕ) (typed : IsTyped lat g p) (x y : Start E) → AgreeTo o x y
      → Both v lat made.lattice laws g o t lat.bottom typed.0 (first_core v lat g image p made.code t x) (found t x).whole.after
      (first_core v lat g image p made.code t y) (found t y).whole.after (record_at o t x) (record_at o t y)
  pair_of o t typed x y a =
      two_run v lat made.lattice laws g o t lat.bottom typed.0 (
        lat.bottom,
        typed.1,
        made.arrays,
        made.lattice.same lat.bottom,
        made.lattice.lowest o,
      ) (record { memory = a.low; long = a.long; one = a.one; other = a.other; parts = a.parts })
      (found t x).whole.run (found t y).whole.run

  pub fits_at : (o t : ℕ) (x y : Start E) → AgreeTo o x y → Fits (record_at o t x) (record_at o t y)
  fits_at o t x y a = (pair_of o t made.typed x y a).fits

  -- what a record determines
  abbrev pub Told : {V : Type 0} → ℕ → ℕ → (Start E → V) → Type 0
  Told o t view = (x y : Start E) → AgreeTo o x y → record_at o t x ≡ record_at o t y → view x ≡ view y

  pub timed_at : (o t : ℕ) (typed : IsTyped lat g p) (x y : Start E) → AgreeTo o x y → record_at o t x ≡ record_at o t y
      → Timing v lat made.lattice laws g o t typed.0 (found t x).whole.after (found t y).whole.after
  timed_at o t typed x y a e = (pair_of o t typed x y a).timed e (record { seen = refl; misses = λ h h' l low. refl; clock = λ low. inl refl })

  pub told_seen : (o t : ℕ) → Told o t (seen_from v lat g image o t)
  told_seen o t x y a e = ap (visible lat g o) (found t x).whole.log ∙ (timed_at o t made.typed x y a e).seen ∙ sym (ap (visible lat g o) (found t y).whole.log)

  pub length_at : (o t : ℕ) (x y : Start E) → AgreeTo o x y → Halts v image t x → Halts v image t y → length (record_at o t x) ≡ length (record_at o t y)
  length_at o t x y a h h' =
      let b = pair_of o t made.typed x y a in
      let l = b.most ((found t x).whole.in_time h) in
      let r = b.least ((found t y).whole.in_time h') in
      omega arith

  pub counted_at : (o t : ℕ) (ds ks : ℕ → ℕ) (s : Start E) → AtMost ds (record_at o t s) → ((l : ℕ) → picked (is_at l) (record_at o t s) ≤ ks l)
      → IsCounted order.size ds ks (record_at o t s)
  counted_at o t ds ks s up h =
      record { up = up; rises = (grows_run v lat g o t (found t s).whole.run).rises; levels = levels_at o t s; short = h }

  -- a start that agrees with a first one, and more
  record Member (o : ℕ) (P : Start E → Type 0) (s : Start E) : Type 0 where
    from : Start E
    agrees : AgreeTo o s from
    more : P from

  members : (o : ℕ) (P : Start E → Type 0) (s : Start E) (starts : List (Start E)) → Each (λ s'. AgreeTo o s s') starts → Each P starts
      → List (Member o P s)
  members o P s [] a h = []
  members o P s (s' ∷ starts) a h = record { from = s'; agrees = a.0; more = h.0 } ∷ members o P s starts a.1 h.1

  views-members : {V : Type 0} (view : Start E → V) (o : ℕ) (P : Start E → Type 0) (s : Start E) (starts : List (Start E))
      (a : Each (λ s'. AgreeTo o s s') starts) (h : Each P starts) → map (λ (x : Member o P s). view x.from) (members o P s starts a h) ≡ map view starts
  unfolding members
  views-members view o P s [] a h = refl
  views-members view o P s (s' ∷ starts) a h = ap (λ z. view s' ∷ z) (views-members view o P s starts a.1 h.1)

  pair : (o : ℕ) (P : Start E → Type 0) (s : Start E) (x y : Member o P s) → AgreeTo o x.from y.from
  pair o P s x y = agree_on o x.from s y.from (agree_back o s x.from x.agrees) y.agrees

  -- what a record determines is one of few things, if numbers below m tell the records of starts apart of which P is true
  pub few_numbered : {V : Type 0} (o t m : ℕ) (P : Start E → Type 0) (number : (s : Start E) → P s → ℕ) → ((s : Start E) (h : P s) → number s h < m)
      → ((x y : Start E) (h : P x) (k : P y) → AgreeTo o x y → number x h ≡ number y k → record_at o t x ≡ record_at o t y)
      → (view : Start E → V) → Told o t view → (same : V → V → Bool) → Tests same → (s : Start E) (starts : List (Start E)) → Each (λ s'. AgreeTo o s s') starts
      → Each P starts → distinct_count same (map view starts) ≤ m
  few_numbered o t m P number below apart view told same tests s starts a h =
      subst (λ z. distinct_count same z ≤ m) (views-members view o P s starts a h)
      (count_few (λ (x : Member o P s). view x.from) (λ x. number x.from x.more) m (λ x. below x.from x.more) same tests
      (λ x y e. told x.from y.from (pair o P s x y) (apart x.from y.from x.more y.more (pair o P s x y) e)) (members o P s starts a h))

  -- the sharp count
  pub few_of : {V : Type 0} (o t : ℕ) (ds ks : ℕ → ℕ) (P : Start E → Type 0) → ((s : Start E) → P s → IsCounted order.size ds ks (record_at o t s))
      → ((x y : Start E) → P x → P y → (length (record_at o t x) ≡ length (record_at o t y)) ⊎ (Under ds (record_at o t x) × Under ds (record_at o t y)))
      → (view : Start E → V) → Told o t view → (same : V → V → Bool) → Tests same → (s : Start E) (starts : List (Start E)) → Each (λ s'. AgreeTo o s s') starts
      → Each P starts → distinct_count same (map view starts) ≤ sharp (λ l. suc (ds l)) order.size ks
  few_of o t ds ks P good ends =
      few_numbered o t (sharp (λ l. suc (ds l)) order.size ks) P (λ s h. number ds ks order.size (record_at o t s))
      (λ s h. counted_below order.size ds ks (record_at o t s) (good s h))
      (λ x y h k a. counted_same order.size ds ks (record_at o t x) (record_at o t y) (fits_at o t x y a) (ends x y h k) (good x h) (good y k))

  -- at most k relevant mitigations ended in each run: so many of each level that does not flow, and a value more for each level, which
  -- stands for a mitigation that has not ended
  pub few_within : {V : Type 0} (o t k : ℕ) → (view : Start E → V) → Told o t view → (same : V → V → Bool) → Tests same → (s : Start E)
      (starts : List (Start E)) → Each (λ s'. AgreeTo o s s') starts → Each (λ s'. length (record_at o t s') ≤ k) starts
      → distinct_count same (map view starts) ≤ bound order o t k
  few_within o t k view told same tests s starts a h =
      let b = digits t in
      let ks : ℕ → ℕ = λ l. cond (lat.flows l o) 0 k in
      let under : (s' : Start E) → Under (λ l. b) (record_at o t s') = λ s'.
      digits_under t (record_at o t s') (grows_run v lat g o t (found t s').whole.run).took in
      let few = few_of o t (λ l. b) ks (λ s'. length (record_at o t s') ≤ k)
      (λ s' short. counted_at o t (λ l. b) ks s' (at_most_same (λ l. b) (record_at o t s') (under s')) (λ l. level l s' short (lat.flows l o) refl))
      (λ x y hx hy. inr (under x, under y)) view told same tests s starts a h in
      omega (
        arith,
        few,
        sharp_within lat o b k order.size (λ l. suc b) ks (λ l. omega arith) (λ l. most (lat.flows l o))
            (λ l f. ap (λ z. cond {A = ℕ} z 0 k) f),
      )
    where
      level : (l : ℕ) (s' : Start E) → length (record_at o t s') ≤ k → (b : Bool) → lat.flows l o ≡ b → picked (is_at l) (record_at o t s') ≤ cond b 0 k
      level l s' short true f = omega (arith, none_low o t l f s')
      level l s' short false f = omega (arith, picked_length (is_at l) (record_at o t s'))

      most : (b : Bool) → cond b 0 k ≤ k
      most true = omega arith
      most false = omega arith

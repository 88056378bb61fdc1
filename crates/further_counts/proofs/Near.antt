-- A program that nearly reaches the count.
use Rattle.std.proofs.Common.{◌≡◌, ℕ, zero, suc, ◌+◌, ◌-◌, ◌*◌, ◌/◌, ◌^◌, ◌<◌, ◌≤◌, List, [], ◌∷◌, length, refl, sym, ap, ◌∙◌, subst, inl, inr, ⊎_elim, arith}
use Rattle.std.specs.Prelude.{Bool, true, false, cond, eqb, not, ◌&&◌, ℤ, pos, map}
use Rattle.std.specs.List.{filter, count_by}
use Rattle.std.proofs.lemmas.Bool.{cases_lt, cases_eq, cond-true, cond-false, eq-eqb, ne_eqb, false_from_ne_true}
use Rattle.std.proofs.lemmas.List.{length-map}
use Rattle.std.proofs.lemmas.Nat.{pow_below, pow_pos}
use Rattle.std.proofs.Math.Nat.{pow-succ'}
use Rattle.std.proofs.Math.Pow.{pow_mono}
use Rattle.doubling_schedule.specs.Doubling.{prediction, misses_after}
use Rattle.doubling_schedule.proofs.SettleLemmas.{misses_after-settles, Settles-unique}
use Rattle.mit_syntax.specs.Values.{read}
use Rattle.label_lattice.specs.Lattice.{Lattice, Flows, IsLattice}
use Rattle.label_lattice.specs.Order.{Order, lattice_of}
use Rattle.source_meaning.specs.Source.{started_in}
use Rattle.source_meaning.proofs.Told.{ended_same}
use Rattle.timing_types.specs.Typing.{IsTyped}
use Rattle.env_contract.specs.declared.place.Place.{Place}
use Rattle.env_contract.specs.Env.{Env}
use Rattle.env_contract.specs.Laws.{IsLawful}
use Rattle.label_code.specs.Machine.{Machine, Event, Wrote, start, step, steps}
use Rattle.label_code.specs.Run.{Start, run_from}
use Rattle.label_code.specs.declared.code.Instr.{Instr}
use Rattle.label_code.proofs.Leads.{steps-add, stays}
use Rattle.label_code.proofs.Ticks.{Sane, Ran, ran, ticks, steps_sane, steps_clock}
use Rattle.code_lower.specs.Layout.{IsImage}
use Rattle.leak_bound.specs.Digits.{digits}
use Rattle.leak_bound.specs.Relevant.{is_relevant}
use Rattle.leak_bound.specs.Records.{Each, Pairwise, Tests, distinct, distinct_count}
use Rattle.leak_bound.specs.Sound.{Agree, seen_from, Halts, IsCompiled}
use Rattle.label_code.specs.Visible.{visible}
use Rattle.leak_bound.proofs.Still.{still}
use Rattle.leak_bound.proofs.Digits.{digits_is, digits_of}
use Rattle.further_counts.specs.Near.{h_high, all_high, naps, naps_image, power, powers, ShowApart, Nearly, NearlyReached}
use Rattle.sharp_bound.specs.Guess.{FewShown}
use Rattle.sharp_bound.specs.Firsts.{PredictsBy, notes_to}
use Rattle.leak_bound.specs.Rising.{rising, sharp}
use Rattle.sharp_bound.specs.Sharp.{relevant_at, ends_by, BeginsEach, SharpSound}
use Rattle.leak_bound.proofs.Choose.{rising-none, one-rising}
use Rattle.sharp_bound.proofs.Guess.{Has, few_shown}
use Rattle.further_counts.proofs.Twice.{distinct_few}
use Rattle.sharp_bound.proofs.Final.{is_sharp}
use Rattle.sharp_bound.proofs.Firsts.{at_least_one}
use Rattle.mit_syntax.specs.Todo.{Marked}

-- a run that halts by T is the run to T
pub halts_there : {E : Type 0} (v : Env E) (image : List Instr) (t k : ℕ) (s : Start E) → (steps v image k (start s.memory s.env)).halted ≡ true
    → (steps v image k (start s.memory s.env)).core.clock ≤ t → run_from v image t s ≡ steps v image k (start s.memory s.env)
halts_there {E = E} v image t k s h by = ⊎_elim earlier later (cases_lt r.count k)
  where
    x : Machine E
    x = start s.memory s.env

    y : Machine E
    y = run_from v image t s

    r : Ran v image t x y
    r = ran v image t t x tt (omega arith) (omega arith)

    later : k ≤ r.count → y ≡ steps v image k x
    later le =
        let e : r.count ≡ k + (r.count - k) = omega arith in
        sym r.is ∙ ap (λ n. steps v image n x) e ∙ steps-add v image k (r.count - k) x ∙ stays v image (r.count - k) (steps v image k x) h

    earlier : r.count < k → y ≡ steps v image k x
    earlier lt =
        let m = k - r.count - 1 in
        let e : k ≡ r.count + suc m = omega arith in
        let on : steps v image k x ≡ steps v image (suc m) y =
        ap (λ n. steps v image n x) e ∙ steps-add v image r.count (suc m) x ∙ ap (steps v image (suc m)) r.is in
        let sane = ticks v image y (subst (λ z. Sane z.opened z.core.clock) r.is (steps_sane v image r.count x tt)) in
        let up = steps_clock v image m (step v image y) sane.sane in
        let same = ap (λ z. z.core.clock) on in
        ⊎_elim
        (λ (end : y.halted ≡ true). sym (on ∙ stays v image (suc m) y end))
        (λ (more : y.halted ≡ false × (t < (step v image y).core.clock)). let q = more.1 in absurd (omega (arith, q, up, same, by)))
        r.over

-- and one that has halted is where those steps lead
halted_there : {E : Type 0} (v : Env E) (image : List Instr) (t k : ℕ) (s : Start E) → (steps v image k (start s.memory s.env)).halted ≡ true
    → (run_from v image t s).halted ≡ true → run_from v image t s ≡ steps v image k (start s.memory s.env)
halted_there {E = E} v image t k s h h' = ⊎_elim earlier later (cases_lt r.count k)
  where
    x : Machine E
    x = start s.memory s.env

    y : Machine E
    y = run_from v image t s

    r : Ran v image t x y
    r = ran v image t t x tt (omega arith) (omega arith)

    later : k ≤ r.count → y ≡ steps v image k x
    later le =
        let e : r.count ≡ k + (r.count - k) = omega arith in
        sym r.is ∙ ap (λ n. steps v image n x) e ∙ steps-add v image k (r.count - k) x ∙ stays v image (r.count - k) (steps v image k x) h

    earlier : r.count < k → y ≡ steps v image k x
    earlier lt =
        let e : k ≡ r.count + (k - r.count) = omega arith in
        sym (ap (λ n. steps v image n x) e ∙ steps-add v image r.count (k - r.count) x ∙ ap (steps v image (k - r.count)) r.is
        ∙ stays v image (k - r.count) y h')

-- one mitigate of one level
sharp-none : (values : ℕ → ℕ) (n high : ℕ) (counts : ℕ → ℕ) → ((l : ℕ) → counts l ≡ cond (eqb high l) 1 0) → n ≤ high → sharp values n counts ≡ 1
sharp-none values zero high counts h le = refl
sharp-none values (suc n) high counts h le =
    let zero_here : counts n ≡ 0 = h n ∙ cond-false (eqb high n) 1 0 (ne_eqb high n (λ e. absurd (omega arith))) in
    let one = ap (rising (values n)) zero_here ∙ rising-none (values n) in
    let times = ap (λ z. z * sharp values n counts) one in
    omega (arith, times, sharp-none values n high counts h (omega arith))

sharp-one : (values : ℕ → ℕ) (n high : ℕ) (counts : ℕ → ℕ) → ((l : ℕ) → counts l ≡ cond (eqb high l) 1 0) → high < n → sharp values n counts ≡ values high
sharp-one values zero high counts h lt = absurd (omega arith)
sharp-one values (suc n) high counts h lt =
    ⊎_elim
    (λ (e : high ≡ n).
    let one = ap (rising (values n)) (h n ∙ cond-true (eqb high n) 1 0 (eq-eqb high n e)) ∙ one-rising (values n) in
    let times = ap (λ z. rising (values n) (counts n) * z) (sharp-none values n high counts h (omega arith)) in
    let there = ap values e in
    omega (arith, times, one, there))
    (λ (ne : high ≡ n → ⊥).
    let one = ap (rising (values n)) (h n ∙ cond-false (eqb high n) 1 0 (ne_eqb high n ne)) ∙ rising-none (values n) in
    let times = ap (λ z. z * sharp values n counts) one in
    omega (arith, times, sharp-one values n high counts h (omega arith)))
    (cases_eq high n)

each_first : {E : Type 0} (v : Env E) (lat : Lattice) (g ls : ℕ → ℕ) (image : List Instr) (p : Marked) (o t : ℕ) (starts : List (Start E))
    → Each (λ s. PredictsBy v lat g ls image p o t (λ l. 1) s) starts
each_first v lat g ls image p o t [] = tt
each_first v lat g ls image p o t (s ∷ starts) =
    (at_least_one _ _ (is_relevant lat g ls o p) ls p s.memory (notes_to v image t s), each_first v lat g ls image p o t starts)

div_one : (n : ℕ) → n / 1 ≡ n
div_one n = omega arith

from_digits : (t m : ℕ) → m < digits t → 2 ^ m ≤ t
from_digits zero m h = absurd (omega (arith, h))
from_digits (suc t) m h =
    let d = digits_is (suc t) (omega arith) in
    let up : m ≤ d.0 = omega (arith, h, d.1) in
    let mono : 2 ^ m ≤ 2 ^ d.0 = pow_mono up in
    let low = d.3 in
    omega (arith, mono, low)

filter_all : {X V : Type 0} (see : X → V) (same : V → V → Bool) → Tests same → (x : X) (xs : List X) → Each (λ y. see x ≡ see y → ⊥) xs
    → filter (λ w. not (same (see x) w)) (map see xs) ≡ map see xs
filter_all see same tests x [] h = refl
filter_all see same tests x (y ∷ xs) h =
    let other : same (see x) (see y) ≡ false = false_from_ne_true (same (see x) (see y)) (λ e. h.0 (tests.same_to (see x) (see y) e)) in
    ap (λ b. cond (not b) (see y ∷ filter (λ w. not (same (see x) w)) (map see xs)) (filter (λ w. not (same (see x) w)) (map see xs))) other
    ∙ ap (λ z. see y ∷ z) (filter_all see same tests x xs h.1)

-- where no two show the same, all are different
all_apart : {X V : Type 0} (see : X → V) (same : V → V → Bool) → Tests same → (xs : List X) → ShowApart see xs → distinct same (map see xs) ≡ map see xs
all_apart see same tests [] h = refl
all_apart see same tests (x ∷ xs) h =
    ap (λ z. see x ∷ filter (λ w. not (same (see x) w)) z) (all_apart see same tests xs h.1) ∙ ap (λ z. see x ∷ z) (filter_all see same tests x xs h.0)

-- an environment without penalties and without change is lawful
flat_laws : {E : Type 0} (part : Place → ℕ → E → List ℕ) (lat : Lattice) (serves : E → Type 0) → IsLawful (still part) lat serves
flat_laws part lat serves = record {
  keeps = λ k a er ew e s. s;
  write_label = λ k a er ew e s q l h. refl;
  read_label =
      λ k a er ew e e' s s' h. refl;
  agreement = λ k a er ew h e e' s s' f. f;
}

module _ {E : Type 0} (serves : E → Type 0) (part : Place → ℕ → E → List ℕ) (order : Order) (ll : IsLattice (lattice_of order)) (o high : ℕ)
    (apart : Flows (lattice_of order) high o → ⊥) where
  abbrev v : Env E
  v = still part

  abbrev lat : Lattice
  lat = lattice_of order

  abbrev g : ℕ → ℕ
  g = h_high high o

  abbrev ls : ℕ → ℕ
  ls = all_high high

  abbrev image : List Instr
  image = naps_image lat high o

  none : (c : ℕ) → Flows lat (lat.join lat.bottom lat.bottom) c
  none c = ll.least lat.bottom lat.bottom c (ll.lowest c) (ll.lowest c)

  none_more : (c : ℕ) → Flows lat (lat.join (lat.join lat.bottom lat.bottom) lat.bottom) c
  none_more c = ll.least _ _ c (none c) (ll.lowest c)

  typed : IsTyped lat g (naps lat high)
  typed =
      let start = lat.join (lat.join lat.bottom lat.bottom) lat.bottom in (
        o,
        (
          lat.join (lat.join start high) lat.bottom,
          none lat.bottom,
          (none lat.bottom, refl),
          ll.least _ _ high (ll.least _ _ high (none_more high) (ll.same high)) (ll.lowest high),
          (ll.least _ _ o (ll.least _ _ o (none_more o) (none_more o)) (ll.lowest o), none lat.bottom, refl),
        ),
      )

  code : IsImage lat g image (naps lat high)
  code = ((refl, refl, (refl, refl, tt), refl, (refl, refl, tt)), refl)

  compiled : high < order.size → IsCompiled order g ls image (naps lat high)
  compiled h = record {
    lattice = ll;
    levels = (h, tt, tt);
    told = (refl, tt, tt);
    marks = (refl, tt, tt);
    arrays =
        (tt, (tt, tt), (tt, tt));
    typed = typed;
    code = code;
  }

  agree : (e : E) → serves e → (a b : ℕ) → Agree v lat serves g o (power e a) (power e b)
  agree e s a b =
      record {
        one = s;
        other = s;
        long = refl;
        low = λ x f. low x f;
        parts = λ q l f. refl;
      }
    where
      low : (x : ℕ) → Flows lat (g x) o → read (pos (2 ^ a) ∷ pos 0 ∷ []) x ≡ read (pos (2 ^ b) ∷ pos 0 ∷ []) x
      low zero f = absurd (apart f)
      low (suc x) f = refl

  -- eight steps
  abbrev after : E → ℕ → Machine E
  after e n = steps v image 8 (start (power e n).memory e)

  -- the body of the mitigate takes 2 ^ n + 3 cycles, so it ends at n + 1 misses
  settles : (n : ℕ) → 2 ≤ n → misses_after (pos 1) (4 + 2 ^ n + 1 - 2) 0 ≡ suc n
  settles n two =
      let x = 4 + 2 ^ n + 1 - 2 in
      let four : 2 ^ 2 ≤ 2 ^ n = pow_mono two in
      let twice = pow-succ' 2 n in
      Settles-unique (pos 1) x 0 _ (suc n) (misses_after-settles (pos 1) x 0)
      (record {
        from = omega arith;
        above = omega (arith, four, twice);
        least = λ k low above. ⊎_elim (λ (lt : k < suc n). let less : k ≤ n = omega arith in let up : 2 ^ k ≤ 2 ^ n = pow_mono less in
            absurd (omega (arith, up, above))) (λ (le : suc n ≤ k). le) (cases_lt k (suc n));
      })

  -- h = 1 and h = 2 end as h = 4 does
  settled : (n : ℕ) → (j : ℕ) × (2 ≤ j) × (misses_after (pos 1) (4 + 2 ^ n + 1 - 2) 0 ≡ suc j)
  settled zero = (2, omega arith, refl)
  settled (suc zero) = (2, omega arith, refl)
  settled (suc (suc n)) = (suc (suc n), omega arith, settles (suc (suc n)) (omega arith))

  clock_of : (e : E) (n j : ℕ) → misses_after (pos 1) (4 + 2 ^ n + 1 - 2) 0 ≡ suc j → (after e n).core.clock ≡ 2 ^ suc j + 5
  clock_of e n j is = let c = ap (λ m. prediction (pos 1) m) is in omega (arith, c)

  clock_is : (e : E) (n : ℕ) → 2 ≤ n → (after e n).core.clock ≡ 2 ^ suc n + 5
  clock_is e n two = clock_of e n n (settles n two)

  seen_is : (e : E) (n j : ℕ) → misses_after (pos 1) (4 + 2 ^ n + 1 - 2) 0 ≡ suc j → visible lat g o (after e n).core.log ≡ Wrote 1 (pos 1) (2 ^ suc j + 4) ∷ []
  seen_is e n j is =
      let c = ap (λ m. prediction (pos 1) m) is in
      let at : 2 + prediction (pos 1) (misses_after (pos 1) (4 + 2 ^ n + 1 - 2) 0) + 1 + 1 + 0 ≡ 2 ^ suc j + 4 = omega (arith, c) in
      cond-true (lat.flows o o) _ _ (ll.same o) ∙ ap (λ z. Wrote 1 (pos 1) z ∷ []) at

  module _ (t : ℕ) where
    abbrev see : Start E → List Event
    see s = seen_from v lat g image o t s

    -- such a start halts by T
    in_time : (n : ℕ) → 2 ≤ n → n + 3 ≤ digits t → 2 ^ suc n + 5 ≤ t
    in_time n two le =
        let four : 2 ^ 2 ≤ 2 ^ n = pow_mono two in
        omega (arith, four, pow-succ' 2 n, pow-succ' 2 (suc n), from_digits t (suc (suc n)) (omega arith))

    halted : (e : E) (n : ℕ) → 2 ≤ n → n + 3 ≤ digits t → run_from v image t (power e n) ≡ after e n
    halted e n two le = halts_there v image t 8 (power e n) refl (omega (arith, clock_is e n two, in_time n two le))

    shows : (e : E) (n : ℕ) → 2 ≤ n → n + 3 ≤ digits t → see (power e n) ≡ Wrote 1 (pos 1) (2 ^ suc n + 4) ∷ []
    shows e n two le = ap (λ y. visible lat g o y.core.log) (halted e n two le) ∙ seen_is e n n (settles n two)

    differ : (e : E) (n m : ℕ) → 2 ≤ n → n < m → m + 3 ≤ digits t → see (power e n) ≡ see (power e m) → ⊥
    differ e n m two lt le same =
        let lists : Wrote 1 (pos 1) (2 ^ suc n + 4) ∷ [] ≡ Wrote 1 (pos 1) (2 ^ suc m + 4) ∷ [] =
        sym (shows e n two (omega arith)) ∙ same ∙ shows e m (omega arith) le in
        let cycles : 2 ^ suc n + 4 ≡ 2 ^ suc m + 4 = cc in
        let up : suc n < suc m = omega arith in
        absurd (omega (arith, cycles, pow_below (suc n) (suc m) up))

    halts : (e : E) (n k : ℕ) → 2 ≤ n → (0 < k → n + k + 2 ≤ digits t) → Each (Halts v image t) (powers e n k)
    halts e n zero two le = tt
    halts e n (suc k) two le =
        let here = le (omega arith) in
        (ap (λ y. y.halted) (halted e n two (omega arith)), halts e (suc n) k (omega arith) (λ some. omega arith))

    apart_from : (e : E) (n m k : ℕ) → 2 ≤ n → n < m → (0 < k → m + k + 2 ≤ digits t) → Each (λ s. see (power e n) ≡ see s → ⊥) (powers e m k)
    apart_from e n m zero two lt le = tt
    apart_from e n m (suc k) two lt le =
        let here = le (omega arith) in
        (differ e n m two lt (omega arith), apart_from e n (suc m) k two (omega arith) (λ some. omega arith))

    all_differ : (e : E) (n k : ℕ) → 2 ≤ n → (0 < k → n + k + 2 ≤ digits t) → ShowApart see (powers e n k)
    all_differ e n zero two le = tt
    all_differ e n (suc k) two le =
        let here = le (omega arith) in
        (apart_from e n (suc n) k two (omega arith) (λ some. omega arith), all_differ e (suc n) k (omega arith) (λ some. omega arith))

    long : (e : E) (n k : ℕ) → length (powers e n k) ≡ k
    long e n zero = refl
    long e n (suc k) = ap suc (long e (suc n) k)

    agree_from : (e : E) → serves e → (a n k : ℕ) → Each (Agree v lat serves g o (power e a)) (powers e n k)
    agree_from e s a n zero = tt
    agree_from e s a n (suc k) = (agree e s a n, agree_from e s a (suc n) k)

    agree_all : (e : E) → serves e → (a i n k : ℕ) → Each (λ s. Each (Agree v lat serves g o s) (powers e a i)) (powers e n k)
    agree_all e s a i n zero = tt
    agree_all e s a i n (suc k) = (agree_from e s n a i, agree_all e s a i (suc n) k)

    nearly : (e : E) → serves e → Nearly v lat serves high o t (powers e 2 (digits t - 4))
    nearly e s =
        let k = digits t - 4 in
        let apart = all_differ e 2 k (omega arith) (λ some. omega arith) in
        record {
          long = long e 2 k;
          agree = agree_all e s 2 k 2 k;
          halt = halts e 2 k (omega arith) (λ some. omega arith);
          apart = apart;
          count = λ same tests. ap length (all_apart see same tests (powers e 2 k) apart) ∙ length-map (powers e 2 k) see ∙ long e 2 k;
        }

  -- one relevant mitigate begins, of the level high
  relevant : (l : ℕ) → relevant_at lat g ls o (naps lat high) l 0 ≡ eqb high l
  relevant l =
      ap (λ b. (b && not (lat.flows high o)) && eqb high l) (ll.lowest o)
      ∙ ap (λ b. (true && not b) && eqb high l) (false_from_ne_true (lat.flows high o) apart)

  begins : (memory : List ℤ) → BeginsEach lat g ls o (naps lat high) memory (λ l. cond (eqb high l) 1 0)
  begins memory = (3, refl, λ l. let r = ap (λ b. cond {A = ℕ} b 1 0) (relevant l) in omega (arith, r))

  begins_one : (memory : List ℤ) (counts : ℕ → ℕ) → BeginsEach lat g ls o (naps lat high) memory counts → (l : ℕ) → counts l ≡ cond (eqb high l) 1 0
  begins_one memory counts b l =
      let own = begins memory in
      sym (b.2 l) ∙ ap (λ z. count_by (relevant_at lat g ls o (naps lat high) l) (started_in z)) (ended_same (naps lat high) memory b.0 own.0 b.1 own.1)
      ∙ own.2 l

  most : o < order.size → high < order.size → SharpSound v order serves g ls image (naps lat high) → (t : ℕ) → 0 < t → (starts : List (Start E))
      → Pairwise (Agree v lat serves g o) starts → Each (Halts v image t) starts → (same : List Event → List Event → Bool) → Tests same
      → FewShown (seen_from v lat g image o t) same starts (digits t)
  most low below sound t some [] agree halts same tests = few_shown (seen_from v lat g image o t) same tests [] (digits t) (omega arith)
  most low below sound t some (s ∷ starts) agree halts same tests =
      let r = sound.few o low t some (s ∷ starts) agree halts (λ l. 1) (each_first v lat g ls image (naps lat high) o t (s ∷ starts)) same tests in
      let whole : ends_by t (λ l. 1) high ≡ digits t = ap digits (div_one t) in
      subst (FewShown (seen_from v lat g image o t) same (s ∷ starts)) (sharp-one (ends_by t (λ l. 1)) order.size high r.0 (begins_one s.memory r.0 r.1.0) below
      ∙ whole) r.2

  -- the sequences that starts h = 2 ^ n show: those at the ends after n + 1 misses and so on, k of them
  abbrev ends : ℕ → ℕ → List (List Event)
  ends n zero = []
  ends n (suc k) = (Wrote 1 (pos 1) (2 ^ suc n + 4) ∷ []) ∷ ends (suc n) k

  length-ends : (n k : ℕ) → length (ends n k) ≡ k
  length-ends n zero = refl
  length-ends n (suc k) = ap suc (length-ends (suc n) k)

  has_end : (same : List Event → List Event → Bool) → Tests same → (w : List Event) (j n k : ℕ) → w ≡ Wrote 1 (pos 1) (2 ^ suc j + 4) ∷ [] → n ≤ j → j < n + k
      → Has (λ u. same u w) (ends n k)
  has_end same tests w j n zero e le lt = absurd (omega arith)
  has_end same tests w j n (suc k) e le lt =
      ⊎_elim
      (λ (here : n ≡ j). inl (tests.same_from _ w (ap (λ z. Wrote 1 (pos 1) (2 ^ suc z + 4) ∷ []) here ∙ sym e)))
      (λ (ne : n ≡ j → ⊥). inr (has_end same tests w j (suc n) k e (omega arith) (omega arith)))
      (cases_eq n j)

  module _ (d : ℕ) where
    abbrev shown_by : Start E → List Event
    shown_by s = seen_from v lat g image o (2 ^ d) s

    -- such a start that halts by 2 ^ d shows one of d - 3
    one_of : (same : List Event → List Event → Bool) → Tests same → (e : E) (n : ℕ) → Halts v image (2 ^ d) (power e n)
        → Has (λ u. same u (shown_by (power e n))) (ends 2 (d - 3))
    one_of same tests e n h =
        let q = settled n in
        let there = halted_there v image (2 ^ d) 8 (power e n) refl h in
        let r = ran v image (2 ^ d) (2 ^ d) (start (power e n).memory e) tt (omega arith) (omega arith) in
        let by : (run_from v image (2 ^ d) (power e n)).core.clock ≤ 2 ^ d = r.by in
        let clock = ap (λ y. y.core.clock) there in
        let less : 2 ^ suc q.0 < 2 ^ d = omega (arith, by, clock, clock_of e n q.0 q.2) in
        let below : suc q.0 < d = ⊎_elim (λ (lt : suc q.0 < d). lt) (λ (le : d ≤ suc q.0). let up : 2 ^ d ≤ 2 ^ suc q.0 = pow_mono le in
        absurd (omega (arith, up, less))) (cases_lt (suc q.0) d) in
        let two = q.1 in
        has_end same tests (shown_by (power e n)) q.0 2 (d - 3) (ap (λ y. visible lat g o y.core.log) there ∙ seen_is e n q.0 q.2) two (omega arith)

    each_one : (same : List Event → List Event → Bool) → Tests same → (e : E) (starts : List (Start E)) → Each (λ s. (n : ℕ) × (s ≡ power e n)) starts
        → Each (Halts v image (2 ^ d)) starts → Each (λ w. Has (λ u. same u w) (ends 2 (d - 3))) (map shown_by starts)
    each_one same tests e [] p h = tt
    each_one same tests e (s ∷ starts) p h =
        let is = p.0.1 in (
          subst (λ z. Has (λ u. same u (shown_by z)) (ends 2 (d - 3))) (sym is) (one_of same tests e p.0.0 (subst (Halts v image (2 ^ d)) is h.0)),
          each_one same tests e starts p.1 h.1,
        )

    four : (e : E) (starts : List (Start E)) → Each (λ s. (n : ℕ) × (s ≡ power e n)) starts → Each (Halts v image (2 ^ d)) starts
        → (same : List Event → List Event → Bool) → Tests same → distinct_count same (map shown_by starts) ≤ digits (2 ^ d) - 4
    four e starts p h same tests =
        let few = distinct_few same tests (map shown_by starts) (ends 2 (d - 3)) (each_one same tests e starts p h) in
        let long : digits (2 ^ d) ≡ suc d = digits_of (2 ^ d) d (record { from = omega arith; below = omega (arith, pow-succ' 2 d, pow_pos d) }) in
        omega (arith, few, long, length-ends 2 (d - 3))

pub nearly_reached : {E : Type 0} (serves : Order → E → Type 0) (part : Place → ℕ → E → List ℕ) → NearlyReached (still part) serves
nearly_reached serves part order ll o high low below apart =
    let made = compiled (serves order) part order ll o high apart below in
    record {
      accepted = made;
      begins = begins (serves order) part order ll o high apart;
      most = most (serves order) part order ll o high apart low below (is_sharp _ order _ _ _ _ made (flat_laws part (lattice_of order) (serves order)));
      nearly = λ e s t. nearly (serves order) part order ll o high apart t e s;
      four = λ e d. four (serves order) part order ll o high apart d e;
    }

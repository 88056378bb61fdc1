-- The main theorem.
use Rattle.std.proofs.Common.{◌≡◌, ℕ, ◌+◌, ◌≤◌, List, [], ◌∷◌, length, map, refl, sym, ap, ◌∙◌, subst, arith}
use Rattle.std.specs.Prelude.{Bool, true, false, cond, max, ℤ}
use Rattle.std.specs.List.{count_by}
use Rattle.std.proofs.Math.Nat.{le-max_left, le-max_right}
use Rattle.std.proofs.lemmas.List.Recursion.{is_count_by}
use Rattle.mit_syntax.specs.Todo.{Todo, Marked}
use Rattle.label_lattice.specs.Lattice.{Lattice}
use Rattle.label_lattice.specs.Order.{Order, lattice_of}
use Rattle.source_meaning.specs.Source.{started_in, marks_of, HasEnded}
use Rattle.source_meaning.proofs.Told.{ended_same}
use Rattle.env_contract.specs.Env.{Env}
use Rattle.env_contract.specs.Laws.{IsLawful}
use Rattle.label_code.specs.Machine.{Event, Wrote, Began, Ended, start}
use Rattle.label_code.specs.Run.{Start, run_from}
use Rattle.label_code.specs.declared.code.Instr.{Instr}
use Rattle.label_code.proofs.Ticks.{ran}
use Rattle.code_lower.specs.Follows.{told}
use Rattle.code_lower.proofs.Order.{keeps_order}
use Rattle.leak_bound.specs.Relevant.{is_relevant, Begins, begun_count, ended_count}
use Rattle.leak_bound.specs.Records.{Entry, Each, Pairwise, Tests, distinct_count}
use Rattle.leak_bound.specs.Sound.{Agree, seen_from, Halts, bound, FirstBegins, Sound, ShowsOne, most_ended, CutSound, IsCompiled}
use Rattle.leak_bound.proofs.Balance.{all_ended}
use Rattle.leak_bound.proofs.Counting.{picked, picked_all}
use Rattle.leak_bound.proofs.Few.{Each-map, Each-both}
use Rattle.leak_bound.proofs.Headline.{rel, tells, found, record_at, log_at, ended_of, ended_all, none_ended, told_seen, length_at, few_within}
use Rattle.leak_bound.proofs.Tells.{TellsOf}

abbrev tally : (ℕ → Bool) → List ℕ → ℕ
tally rel [] = 0
tally rel (k ∷ ks) = cond (rel k) (1 + tally rel ks) (tally rel ks)

tally_told : (rel : ℕ → Bool) (es : List Event) → begun_count rel es ≡ tally rel (started_in (told es))
tally_told rel [] = refl
tally_told rel (Wrote x n c ∷ es) = tally_told rel es
tally_told rel (Began k c ∷ es) = go (rel k) (tally_told rel es)
  where
    go : (b : Bool) → begun_count rel es ≡ tally rel (started_in (told es))
        → cond b 1 0 + begun_count rel es ≡ cond b (1 + tally rel (started_in (told es))) (tally rel (started_in (told es)))
    go true e = omega (arith, e)
    go false e = omega (arith, e)
tally_told rel (Ended k c ∷ es) = tally_told rel es

-- the log's count is that of its marks
pub begun-told : (rel : ℕ → Bool) (es : List Event) → begun_count rel es ≡ count_by rel (started_in (told es))
begun-told rel es = tally_told rel es ∙ is_count_by (tally rel) rel refl (λ x xs. refl) (started_in (told es))

-- there is one count
pub begins_one : {M L : Type 0} (lat : Lattice) (g ls : ℕ → ℕ) (o : ℕ) (p : Todo M L) (m : List ℤ) (k k' : ℕ) → Begins lat g ls o p m k
    → Begins lat g ls o p m k' → k ≡ k'
begins_one lat g ls o p m k k' b b' =
    sym b.2 ∙ ap (λ z. count_by (is_relevant lat g ls o p) (started_in z)) (ended_same p m b.0 b'.0 b.1 b'.1) ∙ b'.2

empties : (r r' : List Entry) → length r ≡ 0 → length r' ≡ 0 → r ≡ r'
empties [] [] h h' = refl
empties [] (x ∷ r') h h' = absurd (omega (arith, h'))
empties (x ∷ r) r' h h' = absurd (omega (arith, h))

module _ {E : Type 0} {serves : E → Type 0} (v : Env E) (order : Order) (g ls : ℕ → ℕ) (image : List Instr) (p : Marked) (made : IsCompiled order g ls image p)
    (laws : IsLawful v (lattice_of order) serves) where
  abbrev lat : Lattice
  lat = lattice_of order

  abbrev record_to : ℕ → ℕ → Start E → List Entry
  record_to o t s = record_at v order g ls image p made laws o t s

  abbrev long : ℕ → ℕ → Start E → ℕ
  long o t s = length (record_to o t s)

  -- in a run that has halted the program begins as many
  pub begins : (o t : ℕ) (s : Start E) → Halts v image t s → (n : ℕ) × HasEnded p s.memory n
      × ((pick of : ℕ → Bool) → TellsOf lat g o pick of lat.bottom p → count_by of (marks_of p s.memory n) ≡ picked pick (record_to o t s))
  begins o t s h =
      let f = (keeps_order v lat g image p made.code).follows s t in
      let r = ran v image t t (start s.memory s.env) tt (omega arith) (omega arith) in
      let whole = (found v order g ls image p made laws t s).whole in (
        f.0,
        f.2 h,
        λ pick of tell. ap (λ z. count_by of (started_in z)) (sym f.1) ∙ sym (begun-told of (log_at v order g ls image p made laws t s))
            ∙ all_ended v image of r.count (start s.memory s.env) (run_from v image t s) (omega arith) r.is (whole.none_open h)
            ∙ ended_of v order g ls image p made laws o t pick of tell s,
      )

  pub begins_long : (o t : ℕ) (s : Start E) → Halts v image t s → Begins lat g ls o p s.memory (long o t s)
  begins_long o t s h =
      let b = begins o t s h in
      (b.0, b.1, b.2 (λ l. true) (is_relevant lat g ls o p) (tells v order g ls image p made laws o) ∙ picked_all (record_to o t s))

  pub is_sound : Sound v order serves g ls image p
  is_sound =
      record {
        keeps = keeps_order v lat g image p made.code;
        few = λ o low t some starts agree halts same tests. go o t starts agree halts same tests;
      }
    where
      go : (o t : ℕ) → (starts : List (Start E)) → Pairwise (Agree v lat serves g o) starts → Each (Halts v image t) starts
          → (same : List Event → List Event → Bool) → Tests same → (k : ℕ) × FirstBegins lat g ls o p starts k
          × Each (λ s. Begins lat g ls o p s.memory k) starts × (distinct_count same (map (seen_from v lat g image o t) starts) ≤ bound order o t k)
      go o t [] agree halts same tests = (0, refl, tt, omega arith)
      go o t (s ∷ starts) agree halts same tests =
          let k = long o t s in
          let P : Start E → Type 0 = λ s'. Halts v image t s' × (long o t s' ≡ k) in
          let each : Each P (s ∷ starts) = Each-map (λ s'. Agree v lat serves g o s s' × Halts v image t s') P
          (λ s' a. (a.1, sym (length_at v order g ls image p made laws o t s s' a.0 halts.0 a.1)))
          (s ∷ starts) (Each-both (λ s'. Agree v lat serves g o s s') (Halts v image t) (s ∷ starts) agree.0 halts) in (
            k,
            begins_long o t s halts.0,
            Each-map P (λ s'. Begins lat g ls o p s'.memory k)
                (λ s' h. subst (λ z. Begins lat g ls o p s'.memory z) h.1 (begins_long o t s' h.0)) (s ∷ starts) each,
            few_within v order g ls image p made laws o t k (seen_from v lat g image o t) (told_seen v order g ls image p made laws o t) same tests s
                (s ∷ starts) agree.0 (Each-map P (λ s'. long o t s' ≤ k) (λ s' h. omega (arith, h.1)) (s ∷ starts) each),
          )

  pub shows_one : ShowsOne v order serves g ls image p
  shows_one = λ o low none t s s' a.
      let relevant = is_relevant lat g ls o p in
      told_seen v order g ls image p made laws o t s s' a
      (empties (record_to o t s) (record_to o t s')
      (sym (ended_all v order g ls image p made laws o t s) ∙ none_ended relevant none (run_from v image t s).core.log)
      (sym (ended_all v order g ls image p made laws o t s') ∙ none_ended relevant none (run_from v image t s').core.log))

  -- no run has more than the greatest number
  under_most : (o t : ℕ) (starts : List (Start E)) → Each (λ s'. long o t s' ≤ most_ended v image (is_relevant lat g ls o p) t starts) starts
  under_most o t [] = tt
  under_most o t (s ∷ starts) =
      let relevant = is_relevant lat g ls o p in
      let own = ended_count relevant (run_from v image t s).core.log in
      let rest = most_ended v image relevant t starts in (
        omega (arith, ended_all v order g ls image p made laws o t s, le-max_left own rest),
        Each-map (λ s'. long o t s' ≤ rest) (λ s'. long o t s' ≤ max own rest) (λ s' h. omega (arith, h, le-max_right own rest)) starts
            (under_most o t starts),
      )

  pub is_cut_sound : CutSound v order serves g ls image p
  is_cut_sound = record { few = λ o low t some starts agree same tests. go o t starts agree same tests }
    where
      go : (o t : ℕ) → (starts : List (Start E)) → Pairwise (Agree v lat serves g o) starts → (same : List Event → List Event → Bool) → Tests same
          → distinct_count same (map (seen_from v lat g image o t) starts) ≤ bound order o t (most_ended v image (is_relevant lat g ls o p) t starts)
      go o t [] agree same tests = omega arith
      go o t (s ∷ starts) agree same tests =
          few_within v order g ls image p made laws o t (most_ended v image (is_relevant lat g ls o p) t (s ∷ starts)) (seen_from v lat g image o t)
          (told_seen v order g ls image p made laws o t) same tests s (s ∷ starts) agree.0 (under_most o t (s ∷ starts))

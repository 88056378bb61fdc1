-- Few sequences are seen, by the sharper count.
use Rattle.std.proofs.Common.{◌≡◌, ℕ, zero, suc, ◌+◌, ◌-◌, ◌*◌, ◌/◌, ◌^◌, ◌<◌, ◌≤◌, List, [], ◌∷◌, length, refl, sym, ap, ◌∙◌, subst, ◌⊎◌, inl, inr, ⊎_elim}
use Rattle.std.proofs.Common.{arith, map}
use Rattle.std.specs.Prelude.{Bool, true, false, cond, eqb, max, ◌&&◌}
use Rattle.std.proofs.lemmas.Bool.{cases_lt, eqb-true, both_ways}
use Rattle.std.proofs.Math.Nat.{pow-le-pow_right, le-max_left, le-max_right, max-le, mul-le-mul_left, div-le_self}
use Rattle.std.proofs.lemmas.Nat.{le-div}
use Rattle.mit_syntax.specs.Todo.{Marked, Done, commands_of}
use Rattle.label_lattice.specs.Lattice.{Lattice}
use Rattle.label_lattice.specs.Order.{Order, lattice_of, count_not_below}
use Rattle.timing_types.specs.Typing.{IsTyped}
use Rattle.env_contract.specs.Env.{Env}
use Rattle.env_contract.specs.Laws.{IsLawful}
use Rattle.label_code.specs.Machine.{Event, Wrote, Began, Ended}
use Rattle.label_code.specs.Run.{Start, run_from}
use Rattle.label_code.specs.declared.code.Instr.{Instr}
use Rattle.code_lower.specs.Layout.{size}
use Rattle.code_lower.specs.Follows.{told}
use Rattle.leak_bound.specs.Digits.{digits}
use Rattle.leak_bound.specs.Relevant.{is_relevant, ended_count}
use Rattle.leak_bound.specs.Records.{Entry, Each, Pairwise, Tests, distinct_count}
use Rattle.leak_bound.specs.Rising.{rising, sharp}
use Rattle.leak_bound.specs.Sound.{Agree, seen_from, Halts, bound, FirstBegins, most_ended, IsCompiled}
use Rattle.leak_bound.proofs.Bound.{sharp_within}
use Rattle.leak_bound.proofs.Choose.{rising-none}
use Rattle.leak_bound.proofs.Counting.{picked, is_at, picked_length, picked_fits, AtMost, Under}
use Rattle.leak_bound.proofs.Digits.{digits_is, power_digits}
use Rattle.leak_bound.proofs.Few.{Each-map, Each-both}
use Rattle.leak_bound.proofs.Final.{begins_one, begins, begins_long}
use Rattle.leak_bound.proofs.Headline as known
use Rattle.leak_bound.proofs.Headline.{at_most_same}
use Rattle.leak_bound.proofs.Low.{fetched_time}
use Rattle.leak_bound.proofs.Record.{grows_run}
use Rattle.leak_bound.proofs.Whole.{ToEnd, first_core, past_halt}
use Rattle.sharp_count.proofs.Binary.{digits_few}
use Rattle.sharp_bound.specs.Firsts.{PredictsBy, notes_to}
use Rattle.sharp_bound.specs.Guess.{FewShown}
use Rattle.sharp_bound.specs.Sharp.{closer, ends_by, relevant_at, BeginsEach, FewHalted, FewCut, SharpSound, SharpCut}
use Rattle.sharp_bound.specs.End.{end_from, seen_to_end, EndsLow, SharpEnd}
use Rattle.sharp_bound.proofs.Firsts.{TookFirst, took, from_start}
use Rattle.sharp_bound.proofs.Guess.{few_shown}
use Rattle.sharp_count.specs.Lists.{IsAmong}
use Rattle.sharp_count.specs.Ways.{AreWays}
use Rattle.sharp_bound.specs.Shared.{StandApart, FewShared, SharpShared}
use Rattle.sharp_bound.proofs.Choices.{spent, choice_of, is_choice, cycles_spent, same_choice, place, place_below, place_same}
use Rattle.sharp_bound.proofs.Shared.{fits_run}

-- what took its cycles ended at one of so many miss counts
ended_under : (firsts : ℕ → ℕ) (t : ℕ) (r : List Entry) → TookFirst firsts t r → Under (ends_by t firsts) r
ended_under firsts t [] h = tt
ended_under firsts t (e ∷ r) h =
    let some : 0 < max (firsts e.0) 1 = omega (arith, le-max_right (firsts e.0) 1) in
    (power_digits e.1 (t / max (firsts e.0) 1) (le-div (2 ^ e.1) t (max (firsts e.0) 1) some h.0), ended_under firsts t r h.1)

at_most_less : (vs : ℕ → ℕ) (r : List Entry) → Under vs r → AtMost (λ l. vs l - 1) r
at_most_less vs [] h = tt
at_most_less vs (e ∷ r) h = let x = h.0 in (omega arith, at_most_less vs r h.1)

-- a level of an entry has a miss count at which it can end
has_value : (vs : ℕ → ℕ) (l : ℕ) (r : List Entry) → Under vs r → (picked (is_at l) r ≡ 0) ⊎ (0 < vs l)
has_value vs l [] h = inl refl
has_value vs l (e ∷ r) h = go (eqb e.0 l) refl (has_value vs l r h.1)
  where
    go : (b : Bool) → eqb e.0 l ≡ b → (picked (is_at l) r ≡ 0) ⊎ (0 < vs l) → (cond b 1 0 + picked (is_at l) r ≡ 0) ⊎ (0 < vs l)
    go true q w = inr (subst (λ z. 0 < vs z) (eqb-true e.0 l q) (let x = h.0 in omega arith))
    go false q (inl z) = inl (omega (arith, z))
    go false q (inr z) = inr z

same_factor : (v k : ℕ) → (k ≡ 0) ⊎ (0 < v) → rising (suc (v - 1)) k ≡ rising v k
same_factor v k (inl e) = ap (λ z. rising (suc (v - 1)) z) e ∙ rising-none (suc (v - 1)) ∙ sym (ap (rising v) e ∙ rising-none v)
same_factor v k (inr some) = let e : suc (v - 1) ≡ v = omega arith in ap (λ z. rising z k) e

-- equal factors, equal products
pub sharp_same : (n : ℕ) (values values' counts : ℕ → ℕ) → ((l : ℕ) → rising (values l) (counts l) ≡ rising (values' l) (counts l))
    → sharp values n counts ≡ sharp values' n counts
sharp_same zero values values' counts h = refl
sharp_same (suc n) values values' counts h =
    ap (λ z. z * sharp values n counts) (h n) ∙ ap (λ z. rising (values' n) (counts n) * z) (sharp_same n values values' counts h)

-- fewer marks, fewer ends
ended_less : (rel at : ℕ → Bool) (es : List Event) → ended_count (λ k. rel k && at k) es ≤ ended_count rel es
ended_less rel at [] = omega arith
ended_less rel at (Wrote x n c ∷ es) = ended_less rel at es
ended_less rel at (Began k c ∷ es) = ended_less rel at es
ended_less rel at (Ended k c ∷ es) = omega (arith, go (rel k) (at k), ended_less rel at es)
  where
    go : (a b : Bool) → cond {A = ℕ} (a && b) 1 0 ≤ cond a 1 0
    go true true = omega arith
    go true false = omega arith
    go false b = omega arith

max_le : (a b c d : ℕ) → a ≤ c → b ≤ d → max a b ≤ max c d
max_le a b c d h k = max-le (omega (arith, h, le-max_left c d)) (omega (arith, k, le-max_right c d))

module _ {E : Type 0} {serves : E → Type 0} (v : Env E) (order : Order) (g ls : ℕ → ℕ) (image : List Instr) (p : Marked) (made : IsCompiled order g ls image p)
    (laws : IsLawful v (lattice_of order) serves) where
  abbrev lat : Lattice
  lat = lattice_of order

  abbrev rel : ℕ → ℕ → Bool
  rel o = is_relevant lat g ls o p

  abbrev found : (t : ℕ) (s : Start E) → ToEnd v lat g image p made.code t s
  found t s = known.found v order g ls image p made laws t s

  abbrev record_at : ℕ → ℕ → Start E → List Entry
  record_at o t s = known.record_at v order g ls image p made laws o t s

  abbrev log_at : ℕ → Start E → List Event
  log_at t s = (run_from v image t s).core.log

  abbrev AgreeTo : ℕ → Start E → Start E → Type 0
  AgreeTo o s s' = Agree v lat serves g o s s'

  abbrev Told : {V : Type 0} → ℕ → ℕ → (Start E → V) → Type 0
  Told o t view = known.Told v order g ls image p made laws o t view

  told_seen : (o t : ℕ) → Told o t (seen_from v lat g image o t)
  told_seen o t = known.told_seen v order g ls image p made laws o t

  -- of each level as many end as the record has entries of it
  ended_at : (o t l : ℕ) (s : Start E) → ended_count (relevant_at lat g ls o p l) (log_at t s) ≡ picked (is_at l) (record_at o t s)
  ended_at o t l s =
      known.ended_of v order g ls image p made laws o t (is_at l) (relevant_at lat g ls o p l) (known.tells_level v order g ls image p made laws o (is_at l)) s

  closer_within : (o t k : ℕ) → closer order o t k ≤ bound order o t k
  closer_within o t k =
      let m = count_not_below lat o order.size in
      let b = digits t in
      let less : b - 1 ≤ b = omega arith in
      let some : 0 < k + 1 = omega arith in
      pow-le-pow_right some (mul-le-mul_left m less)

  abbrev end_at : ℕ → Start E → ℕ
  end_at t s = (past_halt v lat g image p made.code t (found t s).whole.after).clock

  -- with a low end label the ends are alike: at one cycle, or both past T
  ends_alike : (o t : ℕ) → EndsLow lat g p o → (x y : Start E) → AgreeTo o x y → record_at o t x ≡ record_at o t y → (end_at t x ≡ end_at t y)
      ⊎ ((t < end_at t x) × (t < end_at t y))
  ends_alike o t ends x y a e =
      let typed : IsTyped lat g p = (ends.0, ends.1) in
      let s = (found t x).whole.after in
      let s' = (found t y).whole.after in
      let alike = (known.timed_at v order g ls image p made laws o t typed x y a e).clock ends.2 in
      ⊎_elim
      (λ (c : s.clock ≡ s'.clock). ⊎_elim
      (λ (far : t < s.clock). inr (omega arith, omega arith))
      (λ (by : s.clock ≤ t). fetched_time v lat made.lattice laws g o t (record { er = lat.bottom; ew = lat.bottom }) (size p) s s'
      ((known.pair_of v order g ls image p made laws o t typed x y a).low by (omega arith)) (made.lattice.lowest o) alike)
      (cases_lt t s.clock))
      (λ (far : (t < s.clock) × (t < s'.clock)). let u = far.0 in let u' = far.1 in inr (omega arith, omega arith))
      alike

  told_end : (o t : ℕ) → EndsLow lat g p o → Told o t (end_from v image t)
  told_end o t ends x y a e = go (run_from v image t x).halted (run_from v image t y).halted refl refl (ends_alike o t ends x y a e)
    where
      u : ToEnd v lat g image p made.code t x
      u = found t x

      w : ToEnd v lat g image p made.code t y
      w = found t y

      go : (b b' : Bool) → (run_from v image t x).halted ≡ b → (run_from v image t y).halted ≡ b' → (end_at t x ≡ end_at t y)
          ⊎ ((t < end_at t x) × (t < end_at t y)) →
          cond b ((run_from v image t x).core.clock ∷ []) [] ≡ cond b' ((run_from v image t y).core.clock ∷ []) []
      go true true h h' (inl q) = ap (λ z. z ∷ []) (ap (λ c. c.clock) (u.at_core h) ∙ q ∙ sym (ap (λ c. c.clock) (w.at_core h')))
      go true true h h' (inr q) = absurd (omega (arith, u.by h, q.0))
      go true false h h' (inl q) = absurd (both_ways (run_from v image t y).halted h' (w.halts (omega (arith, u.by h, q))))
      go true false h h' (inr q) = absurd (omega (arith, u.by h, q.0))
      go false true h h' (inl q) = absurd (both_ways (run_from v image t x).halted h (u.halts (omega (arith, w.by h', q))))
      go false true h h' (inr q) = absurd (omega (arith, w.by h', q.1))
      go false false h h' q = refl

  told_both : {V W : Type 0} (o t : ℕ) (view : Start E → V) (view' : Start E → W) → Told o t view → Told o t view'
      → Told {V = V × W} o t (λ s. (view s, view' s))
  told_both o t view view' h h' x y a e = ap (λ z. (z, view' x)) (h x y a e) ∙ ap (λ z. (view y, z)) (h' x y a e)

  abbrev PredictsTo : ℕ → ℕ → (ℕ → ℕ) → Start E → Type 0
  PredictsTo o t firsts s = PredictsBy v lat g ls image p o t firsts s

  under_at : (o t : ℕ) (firsts : ℕ → ℕ) (s : Start E) → PredictsTo o t firsts s → Under (ends_by t firsts) (record_at o t s)
  under_at o t firsts s h =
      let w = (found t s).whole in
      let total = notes_to v image t s in
      let told_all = ap (λ z. length (told z)) w.log in
      ended_under firsts t (record_at o t s)
      (took v lat g o t (rel o) ls firsts total lat.bottom made.lattice (known.tells v order g ls image p made laws o) made.told
      (made.lattice.lowest o) w.run Done
      (from_start v lat g o t (rel o) ls firsts total p (first_core v lat g image p made.code t s) refl h) (omega (arith, told_all)))

  length_of : (o t k : ℕ) (s : Start E) → Halts v image t s → FirstBegins lat g ls o p (s ∷ []) k → length (record_at o t s) ≡ k
  length_of o t k s h b = begins_one lat g ls o p s.memory _ k (begins_long v order g ls image p made laws o t s h) b

  begins_each : (o t : ℕ) (counts : ℕ → ℕ) (s : Start E) → Halts v image t s → ((l : ℕ) → picked (is_at l) (record_at o t s) ≡ counts l)
      → BeginsEach lat g ls o p s.memory counts
  begins_each o t counts s h e =
      let b = begins v order g ls image p made laws o t s h in
      (b.0, b.1, λ l. b.2 (is_at l) (relevant_at lat g ls o p l) (known.tells_level v order g ls image p made laws o (is_at l)) ∙ e l)

  -- no level has more miss counts than T has binary digits
  few_values : (t : ℕ) (firsts : ℕ → ℕ) (l : ℕ) → 0 < t → ends_by t firsts l ≤ digits t
  few_values t firsts l some =
      let d = digits_is t some in
      let c = t / max (firsts l) 1 in
      let low : c < 2 ^ suc d.0 = omega (arith, div-le_self t (max (firsts l) 1), d.2) in
      omega (arith, digits_few c (suc d.0) low, d.1)

  to_closer : (o t k : ℕ) (firsts counts : ℕ → ℕ) → 0 < t → ((l : ℕ) → counts l ≤ k) → ((l : ℕ) → lat.flows l o ≡ true → counts l ≡ 0)
      → sharp (ends_by t firsts) order.size counts ≤ closer order o t k
  to_closer o t k firsts counts some h low =
      let d = digits_is t some in
      let back : d.0 ≡ digits t - 1 = omega (arith, d.1) in
      subst (λ z. sharp (ends_by t firsts) order.size counts ≤ (k + 1) ^ (count_not_below lat o order.size * z)) back
      (sharp_within lat o d.0 k order.size (ends_by t firsts) counts (λ l. omega (arith, few_values t firsts l some, d.1)) h low)

  all_hold : (P Q R : Start E → Type 0) (starts : List (Start E)) → Each P starts → Each Q starts → Each R starts → Each (λ s. P s × Q s × R s) starts
  all_hold P Q R [] a b c = tt
  all_hold P Q R (s ∷ starts) a b c = ((a.0, b.0, c.0), all_hold P Q R starts a.1 b.1 c.1)

  few_halted : {V : Type 0} (o t : ℕ) → 0 < t → (view : Start E → V) → Told o t view → FewHalted v order serves g ls image p o t view
  few_halted o t some view told [] agree halts firsts predicts same tests = (
    λ l. 0,
    tt,
    few_shown view same tests [] (sharp (ends_by t firsts) order.size (λ l. 0)) (omega arith),
    λ k b. (to_closer o t k firsts (λ l. 0) some (λ l. omega arith) (λ l f. refl), closer_within o t k),
  )
  few_halted o t some view told (s ∷ starts) agree halts firsts predicts same tests =
      let counts : ℕ → ℕ = λ l. picked (is_at l) (record_at o t s) in
      let vs : ℕ → ℕ = ends_by t firsts in
      let P : Start E → Type 0 = λ s'. ((l : ℕ) → picked (is_at l) (record_at o t s') ≡ counts l) × (length (record_at o t s') ≡ length (record_at o t s))
      × Halts v image t s' × PredictsTo o t firsts s' in
      let each : Each P (s ∷ starts) = Each-map (λ s'. AgreeTo o s s' × Halts v image t s' × PredictsTo o t firsts s') P
      (λ s' a.
      let e = known.length_at v order g ls image p made laws o t s s' a.0 halts.0 a.1 in
      (λ l. sym (picked_fits (is_at l) (record_at o t s) (record_at o t s') (known.fits_at v order g ls image p made laws o t s s' a.0) e), sym e, a.1, a.2))
      (s ∷ starts) (all_hold (λ s'. AgreeTo o s s') (Halts v image t) (PredictsTo o t firsts) (s ∷ starts) agree.0 halts predicts) in
      let few = known.few_of v order g ls image p made laws o t (λ l. vs l - 1) counts P
      (λ s' h. known.counted_at v order g ls image p made laws o t (λ l. vs l - 1) counts s'
      (at_most_less vs (record_at o t s') (under_at o t firsts s' h.3)) (λ l. omega (arith, h.0 l)))
      (λ x y h h'. inl (h.1 ∙ sym h'.1)) view told same tests s (s ∷ starts) agree.0 each in
      let all = sharp_same order.size (λ l. suc (vs l - 1)) vs counts
      (λ l. same_factor (vs l) (counts l) (has_value vs l (record_at o t s) (under_at o t firsts s predicts.0))) in (
        counts,
        Each-map P (λ s'. BeginsEach lat g ls o p s'.memory counts) (λ s' h. begins_each o t counts s' h.2 h.0) (s ∷ starts) each,
        few_shown view same tests (s ∷ starts) (sharp vs order.size counts)
            (subst (λ z. distinct_count same (map view (s ∷ starts)) ≤ z) all few),
        λ k b. (
          to_closer o t k firsts counts some (λ l. omega (arith, length_of o t k s halts.0 b, picked_length (is_at l) (record_at o t s)))
              (λ l f. known.none_low v order g ls image p made laws o t l f s),
          closer_within o t k,
        ),
      )

  abbrev most : ℕ → ℕ → List (Start E) → ℕ → ℕ
  most o t starts l = most_ended v image (relevant_at lat g ls o p l) t starts

  under_most : (o t : ℕ) (starts : List (Start E)) → Each (λ s'. (l : ℕ) → picked (is_at l) (record_at o t s') ≤ most o t starts l) starts
  under_most o t [] = tt
  under_most o t (s ∷ starts) = (
    (λ l. omega (arith, ended_at o t l s, le-max_left (ended_count (relevant_at lat g ls o p l) (log_at t s)) (most o t starts l))),
    Each-map (λ s'. (l : ℕ) → picked (is_at l) (record_at o t s') ≤ most o t starts l) (λ s'. (l : ℕ)
        → picked (is_at l) (record_at o t s') ≤ most o t (s ∷ starts) l)
        (λ s' h l. omega (arith, h l, le-max_right (ended_count (relevant_at lat g ls o p l) (log_at t s)) (most o t starts l))) starts (under_most o t starts),
  )

  most_less : (o t l : ℕ) (starts : List (Start E)) → most o t starts l ≤ most_ended v image (rel o) t starts
  most_less o t l [] = omega arith
  most_less o t l (s ∷ starts) = max_le _ _ _ _ (ended_less (rel o) (λ k. is_at l (ls k)) (log_at t s)) (most_less o t l starts)

  most_none : (o t l : ℕ) → lat.flows l o ≡ true → (starts : List (Start E)) → most o t starts l ≡ 0
  most_none o t l f [] = refl
  most_none o t l f (s ∷ starts) =
      ap (λ z. max z (most o t starts l)) (ended_at o t l s ∙ known.none_low v order g ls image p made laws o t l f s)
      ∙ ap (λ z. max 0 z) (most_none o t l f starts)

  cut_within : (o t : ℕ) (firsts : ℕ → ℕ) (starts : List (Start E)) → 0 < t
      → sharp (λ l. ends_by t firsts l + 1) order.size (most o t starts) ≤ bound order o t (most_ended v image (rel o) t starts)
  cut_within o t firsts starts some =
      sharp_within lat o (digits t) (most_ended v image (rel o) t starts) order.size (λ l. ends_by t firsts l + 1) (most o t starts)
      (λ l. omega (arith, few_values t firsts l some)) (λ l. most_less o t l starts) (λ l f. most_none o t l f starts)

  cut_under : {V : Type 0} (o t : ℕ) → (view : Start E → V) → Told o t view → (starts : List (Start E)) → Pairwise (Agree v lat serves g o) starts
      → (firsts : ℕ → ℕ) → Each (PredictsTo o t firsts) starts → (same : V → V → Bool) → Tests same
      → distinct_count same (map view starts) ≤ sharp (λ l. ends_by t firsts l + 1) order.size (most o t starts)
  cut_under o t view told [] agree firsts predicts same tests = omega arith
  cut_under o t view told (s ∷ starts) agree firsts predicts same tests =
      let vs : ℕ → ℕ = ends_by t firsts in
      let ks : ℕ → ℕ = most o t (s ∷ starts) in
      let P : Start E → Type 0 = λ s'. ((l : ℕ) → picked (is_at l) (record_at o t s') ≤ ks l) × PredictsTo o t firsts s' in
      let few = known.few_of v order g ls image p made laws o t vs ks P
      (λ s' h. known.counted_at v order g ls image p made laws o t vs ks s' (at_most_same vs (record_at o t s') (under_at o t firsts s' h.1)) h.0)
      (λ x y h h'. inr (under_at o t firsts x h.1, under_at o t firsts y h'.1))
      view told same tests s (s ∷ starts) agree.0
      (Each-both (λ s'. (l : ℕ) → picked (is_at l) (record_at o t s') ≤ ks l) (PredictsTo o t firsts) (s ∷ starts) (under_most o t (s ∷ starts)) predicts) in
      let all = sharp_same order.size (λ l. suc (vs l)) (λ l. vs l + 1) ks (λ l. let e : suc (vs l) ≡ vs l + 1 = omega arith in ap (λ z. rising z (ks l)) e) in
      subst (λ z. distinct_count same (map view (s ∷ starts)) ≤ z) all few

  few_cut : {V : Type 0} (o t : ℕ) → 0 < t → (view : Start E → V) → Told o t view → FewCut v order serves g ls image p o t view
  few_cut o t some view told starts agree firsts predicts same tests = (
    few_shown view same tests starts (sharp (λ l. ends_by t firsts l + 1) order.size (most o t starts))
        (cut_under o t view told starts agree firsts predicts same tests),
    cut_within o t firsts starts some,
  )

  spent_by : (o t : ℕ) (firsts : ℕ → ℕ) (s : Start E) → StandApart (rel o) (commands_of p) → PredictsTo o t firsts s → Halts v image t s
      → spent firsts (record_at o t s) ≤ t
  spent_by o t firsts s apart predicts halts =
      let w = (found t s).whole in
      let by = w.in_time halts in
      let total = notes_to v image t s in
      let told_all = ap (λ z. length (told z)) w.log in
      omega (
        arith,
        by,
        fits_run v lat made.lattice laws g o t (rel o) ls firsts total lat.bottom (known.tells v order g ls image p made laws o) made.told apart
            (made.lattice.lowest o) w.run Done
            (from_start v lat g o t (rel o) ls firsts total p (first_core v lat g image p made.code t s) refl predicts) by (omega (arith, told_all)),
      )

  -- a start's choice is one of the ways
  its_way : (o t : ℕ) (firsts counts : ℕ → ℕ) (ways : List (List (List ℕ))) → AreWays t firsts order.size counts ways → StandApart (rel o) (commands_of p)
      → (s : Start E) → PredictsTo o t firsts s → Halts v image t s → ((l : ℕ) → picked (is_at l) (record_at o t s) ≡ counts l)
      → IsAmong (choice_of order.size (record_at o t s)) ways
  its_way o t firsts counts ways are apart s predicts halts h =
      let r = record_at o t s in
      are.whole (choice_of order.size r)
      (is_choice (ends_by t firsts) counts order.size r (under_at o t firsts s predicts) (grows_run v lat g o t (found t s).whole.run).rises h)
      (omega (arith, cycles_spent firsts order.size r, spent_by o t firsts s apart predicts halts))

  -- Of starts that agree and halt, and of each of which Q is true, as many relevant mitigates of each level begin. If each of
  -- their choices is then among so many, few are shown.
  pub few_by_choice : {V : Type 0} (o t : ℕ) → (view : Start E → V) → Told o t view → (Q : Start E → Type 0)
      → (Are : (ℕ → ℕ) → List (List (List ℕ)) → Type 0) →
      ((counts : ℕ → ℕ) (ways : List (List (List ℕ))) → Are counts ways → (s : Start E) → Q s → Halts v image t s
      → ((l : ℕ) → picked (is_at l) (record_at o t s) ≡ counts l) → IsAmong (choice_of order.size (record_at o t s)) ways) →
      (starts : List (Start E)) → Pairwise (Agree v lat serves g o) starts → Each (Halts v image t) starts → Each Q starts →
      (same : V → V → Bool) → Tests same →
      (counts : ℕ → ℕ) × Each (λ s. BeginsEach lat g ls o p s.memory counts) starts
      × ((ways : List (List (List ℕ))) → Are counts ways → FewShown view same starts (length ways))
  few_by_choice o t view told Q Are its [] agree halts each_q same tests = (λ l. 0, tt, λ ways are. few_shown view same tests [] (length ways) (omega arith))
  few_by_choice o t view told Q Are its (s ∷ starts) agree halts each_q same tests =
      let counts : ℕ → ℕ = λ l. picked (is_at l) (record_at o t s) in
      let P : Start E → Type 0 = λ s'. ((l : ℕ) → picked (is_at l) (record_at o t s') ≡ counts l) × (length (record_at o t s') ≡ length (record_at o t s))
      × Halts v image t s' × Q s' in
      let each : Each P (s ∷ starts) = Each-map (λ s'. AgreeTo o s s' × Halts v image t s' × Q s') P
      (λ s' a.
      let e = known.length_at v order g ls image p made laws o t s s' a.0 halts.0 a.1 in
      (λ l. sym (picked_fits (is_at l) (record_at o t s) (record_at o t s') (known.fits_at v order g ls image p made laws o t s s' a.0) e), sym e, a.1, a.2))
      (s ∷ starts) (all_hold (λ s'. AgreeTo o s s') (Halts v image t) Q (s ∷ starts) agree.0 halts each_q) in (
        counts,
        Each-map P (λ s'. BeginsEach lat g ls o p s'.memory counts) (λ s' h. begins_each o t counts s' h.2 h.0) (s ∷ starts) each,
        λ ways are.
            let way : (x : Start E) (h : P x) → IsAmong (choice_of order.size (record_at o t x)) ways = λ x h. its counts ways are x h.3 h.2 h.0 in
            few_shown view same tests (s ∷ starts) (length ways)
            (known.few_numbered v order g ls image p made laws o t (length ways) P
            (λ x h. place (choice_of order.size (record_at o t x)) ways (way x h))
            (λ x h. place_below (choice_of order.size (record_at o t x)) ways (way x h))
            (λ x y h k a e. same_choice order.size (record_at o t x) (record_at o t y) (known.fits_at v order g ls image p made laws o t x y a)
            (h.1 ∙ sym k.1) (known.levels_at v order g ls image p made laws o t x)
            (place_same _ _ ways (way x h) (way y k) e)) view told same tests s (s ∷ starts) agree.0 each),
      )

  few_shared : {V : Type 0} (o t : ℕ) → (view : Start E → V) → Told o t view → FewShared v order serves g ls image p o t view
  few_shared o t view told apart starts agree halts firsts predicts same tests =
      few_by_choice o t view told (PredictsTo o t firsts) (λ counts ways. AreWays t firsts order.size counts ways)
      (λ counts ways are s its_own halt h. its_way o t firsts counts ways are apart s its_own halt h) starts agree halts predicts same tests

  pub is_shared : SharpShared v order serves g ls image p
  is_shared = record { few = λ o low t some. few_shared o t (seen_from v lat g image o t) (told_seen o t) }

  pub is_sharp : SharpSound v order serves g ls image p
  is_sharp = record { few = λ o low t some. few_halted o t some (seen_from v lat g image o t) (told_seen o t) }

  pub is_sharp_cut : SharpCut v order serves g ls image p
  is_sharp_cut = record { few = λ o low t some. few_cut o t some (seen_from v lat g image o t) (told_seen o t) }

  pub told_to_end : (o t : ℕ) → EndsLow lat g p o → Told o t (seen_to_end v lat g image o t)
  told_to_end o t ends = told_both o t (seen_from v lat g image o t) (end_from v image t) (told_seen o t) (told_end o t ends)

  pub is_sharp_end : SharpEnd v order serves g ls image p p
  is_sharp_end =
      record {
        halted = λ o low ends t some. few_halted o t some (seen_to_end v lat g image o t) (told_to_end o t ends);
        cut = λ o low ends t some. few_cut o t some (seen_to_end v lat g image o t) (told_to_end o t ends);
        shared = λ o low ends t some. few_shared o t (seen_to_end v lat g image o t) (told_to_end o t ends);
      }

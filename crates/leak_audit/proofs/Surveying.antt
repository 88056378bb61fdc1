-- What is known of some runs of a list, one after the other.
use Rattle.std.proofs.Common.{◌≡◌, ◌<◌, ◌≤◌, ℕ, ◌+◌, ◌-◌, List, [], ◌∷◌, ◌++◌, length, max, Bool, true, false, cond, inl, inr, refl, sym, ap, ◌∙◌, subst}
use Rattle.std.proofs.Common.{arith, append-nil, append_assoc, length-append, map, Some, None}
use Rattle.std.specs.Prelude.{◌⊎◌}
use Rattle.std.proofs.lemmas.Bool.{cases_lt}
use Rattle.std.proofs.lemmas.Bool.Decides.{nat_tests}
use Rattle.std.proofs.lemmas.List.{length-map, map-append, take_all}
use Rattle.mit_syntax.specs.Program.{plan_of}
use Rattle.timing_types.specs.Labelled.{LabelledProgram, order_of, labels_of, levels_of}
use Rattle.env_contract.specs.Env.{Env}
use Rattle.label_code.specs.Machine.{Machine, Event}
use Rattle.label_code.specs.Run.{Start}
use Rattle.code_lower.specs.Lowered.{lowered}
use Rattle.cycle_machine.specs.declared.end.RunEnd.{RunEnd}
use Rattle.cycle_machine.specs.declared.end.RunEnd.TheVariants.{Halted, Limit}
use Rattle.leak_bound.specs.Relevant.{relevances, begun_count, ended_count}
use Rattle.leak_bound.specs.Records.{Each}
use Rattle.leak_bound.specs.Sound.{Halts, most_ended}
use Rattle.leak_audit.specs.declared.observe.Observed.{Observed}
use Rattle.leak_audit.specs.declared.survey.Survey.{Survey}
use Rattle.leak_audit.specs.declared.survey.SurveyFault.{SurveyFault}
use Rattle.leak_audit.specs.declared.survey.SurveyFault.TheVariants.{Unfinished, TooMuch, Memory}
use Rattle.leak_audit.specs.Observed.{sequence_of, is_marked, ObservesRun}
use Rattle.leak_audit.specs.declared.kinds.Kinds.{Kinds}
use Rattle.leak_audit.specs.Kept.{AreKinds}
use Rattle.leak_audit.proofs.Split.{Each-more}
use Rattle.leak_audit.specs.Surveyed.{relevant_for, run_of, sequence_from, shown_by, shown_by_all, halted_count, begun_first, IsRefused, IsFirstRefused}
use Rattle.leak_audit.specs.Surveyed.{IsSurveyFault, IsSurvey, unfinished, halts, of_first, Takes, Refuses}

-- how a run ended
abbrev end_of : Bool → ℕ → RunEnd
end_of h c = cond h (Halted c) (Limit c)

halts-end : (h : Bool) (c : ℕ) → halts (end_of h c) ≡ cond h 1 0
halts-end true c = refl
halts-end false c = refl

goes_halted : (must h : Bool) (c : ℕ) → unfinished must (end_of h c) ≡ None → must ≡ true → h ≡ true
goes_halted must true c e m = refl
goes_halted true false c e m = absurd cc
goes_halted false false c e m = absurd cc

stays_must : (must h : Bool) (c k : ℕ) → unfinished must (end_of h c) ≡ Some k → (must ≡ true) × (h ≡ false) × (k ≡ c)
stays_must must true c k e = absurd cc
stays_must true false c k e = (refl, refl, cc)
stays_must false false c k e = absurd cc

of_first-one : (n a b : ℕ) → n ≡ 1 → of_first n a b ≡ a
of_first-one n a b e = ap (λ z. of_first z a b) e

of_first-more : (n a b : ℕ) → 1 < n → of_first n a b ≡ b
of_first-more n a b lt = grind (arith, nat_tests)

cases_le : (n m : ℕ) → (n ≤ m) ⊎ (m < n)
cases_le n m = elim (cases_lt m n) [ inl lt ↦ inr lt | inr le ↦ inl le ]

-- of a list there are at most as many kinds as it has members
pub few_kinds : {E : Type 0} (f : Start E → List Event) (xs : List (Start E)) (k : Kinds) → AreKinds (map f xs) k → length k.different.keys ≤ length xs
few_kinds f xs k h = let few = h.few in omega (arith, few, length-map k.different.keys sequence_of, length-map xs f)

module _ {E : Type 0} (v : Env E) (p : LabelledProgram) (o t : ℕ) (must : Bool) (ss : List (Start E)) where
  shown_more : (xs : List (Start E)) (x : Start E) → shown_by_all v p o t (xs ++ x ∷ []) ≡ shown_by_all v p o t xs + shown_by v p o t x
  shown_more [] x = omega arith
  shown_more (y ∷ xs) x = omega (arith, shown_more xs x)

  -- the runs from n on are left
  pub record Surveying (rest : List (Start E)) (n : ℕ) (r : Survey) : Type 0 where
    pub before : List (Start E)
    pub kinds : AreKinds (map (sequence_from v p o t) before) r.kinds
    pub are : ss ≡ before ++ rest
    pub number : n ≡ length before + 1
    pub halts : must ≡ true → Each (Halts v (lowered p).instrs t) before
    pub shown : r.shown ≡ shown_by_all v p o t before
    pub small : r.shown ≤ 16777216
    pub halted : r.halted + halted_count v p t rest ≡ halted_count v p t ss
    pub few : r.halted + 1 ≤ n
    pub whole : n ≡ 1 → rest ≡ ss
    pub none : n ≡ 1 → r.begun ≡ 0
    pub begun : 1 < n → r.begun ≡ begun_first v p o t ss
    pub ended : max r.ended (most_ended v (lowered p).instrs (relevant_for p o) t rest) ≡ most_ended v (lowered p).instrs (relevant_for p o) t ss
    pub begun_by : r.begun ≤ t
    pub ended_by : r.ended ≤ t

  pub none_surveyed : (n : ℕ) (r : Survey) → n ≡ 1 → AreKinds [] r.kinds → r.shown ≡ 0 → r.begun ≡ 0 → r.ended ≡ 0 → r.halted ≡ 0 → Surveying ss n r
  none_surveyed n r is kinds shown begun ended halted = record {
    before = [];
    kinds = kinds;
    are = refl;
    number = is;
    halts = λ m. tt;
    shown = shown;
    small = omega (arith, shown);
    halted = omega (arith, halted);
    few = omega (arith, halted, is);
    whole = λ e. refl;
    none = λ e. begun;
    begun = λ lt. absurd (omega arith);
    ended = omega (arith, ended);
    begun_by = omega (arith, begun);
    ended_by = omega (arith, ended);
  }

  module _ (s : Start E) (rest more : List (Start E)) (n : ℕ) (r : Survey) (from : rest ≡ s ∷ more) (h : Surveying rest n r) (w : Observed) (marked : List Bool)
      (told : marked ≡ relevances (order_of p) (labels_of p) (levels_of p) o (order_of p).bottom (plan_of p.program))
      (seen : ObservesRun v p o marked (16777216 - r.shown) t s w) where
    abbrev run : Machine E
    run = run_of v p t s

    begun_is : w.tally.begun ≡ begun_count (relevant_for p o) run.core.log
    begun_is = seen.tallies.begun ∙ ap (λ z. begun_count (is_marked z) run.core.log) told

    ended_is : w.tally.ended ≡ ended_count (relevant_for p o) run.core.log
    ended_is = seen.tallies.ended ∙ ap (λ z. ended_count (is_marked z) run.core.log) told

    refused_now : (f : SurveyFault) → IsRefused v p o t must h.before s f → IsFirstRefused v p o t must ss f
    refused_now f k =
        let small = h.small in
        let shown = h.shown in
        record {
          before = h.before;
          refused = s;
          after = more;
          are = h.are ∙ ap (λ z. h.before ++ z) from;
          halt = h.halts;
          few =
              omega (arith, small, shown);
          why = k;
        }

    -- a run that is refused
    pub refuses : (f : SurveyFault) → Refuses r n must w f → IsSurveyFault v p o t must ss f
    refuses (Unfinished k c) x =
        let y = stays_must must run.halted run.core.clock c (ap (unfinished must) (sym seen.end) ∙ x.1) in
        refused_now (Unfinished k c) (y.0, y.1, x.0 ∙ h.number, y.2)
    refuses (TooMuch m) x =
        let shown : w.tally.shown ≡ shown_by v p o t s = seen.tallies.shown in
        let all : m ≡ shown_by_all v p o t h.before + shown_by v p o t s = omega (arith, x.1, shown, h.shown) in
        refused_now (TooMuch m) (goes_halted must run.halted run.core.clock (ap (unfinished must) (sym seen.end) ∙ x.0), all, x.2)
    refuses Memory x = tt

    -- a run that is taken in
    pub one_surveyed : (m : ℕ) (q : Survey) → m ≡ n + 1 → Takes r n must w q → Surveying more m q
    one_surveyed m q next x =
        let shown : w.tally.shown ≡ shown_by v p o t s = seen.tallies.shown in
        let add = x.shown in
        let fits = x.few in
        let room : w.tally.shown ≤ 16777216 - r.shown = omega arith in
        let all : q.shown ≡ r.shown + shown_by v p o t s = omega arith in
        let short : length (sequence_from v p o t s) ≤ 16777216 - r.shown = subst (λ z. z ≤ 16777216 - r.shown) seen.tallies.shown room in
        let halt = goes_halted must run.halted run.core.clock (ap (unfinished must) (sym seen.end) ∙ x.goes) in
        let halted : q.halted ≡ r.halted + cond run.halted 1 0 = x.halted ∙ ap (λ z. r.halted + z) (ap halts seen.end ∙ halts-end run.halted run.core.clock) in
        let halted_rest : halted_count v p t rest ≡ cond run.halted 1 0 + halted_count v p t more = ap (halted_count v p t) from in
        let ended_rest : most_ended v (lowered p).instrs (relevant_for p o) t rest
        ≡ max (ended_count (relevant_for p o) run.core.log) (most_ended v (lowered p).instrs (relevant_for p o) t more) =
        ap (most_ended v (lowered p).instrs (relevant_for p o) t) from in
        let hs = h.shown in
        let hh = h.halted in
        let he = h.ended in
        let hf = h.few in
        let xe = x.ended in
        let by = seen.ended in
        let hby = h.ended_by in
        let one : cond run.halted 1 0 ≤ 1 = at_most run.halted in
        record {
          before = h.before ++ s ∷ [];
          kinds =
              subst (λ z. AreKinds z q.kinds)
              (ap (λ z. map (sequence_from v p o t) h.before ++ z ∷ [])
              (seen.tallies.kept ∙ take_all (16777216 - r.shown) (sequence_from v p o t s) short)
              ∙ sym (map-append (sequence_from v p o t) h.before (s ∷ []))) (x.kinds (map (sequence_from v p o t) h.before) h.kinds);
          are = h.are ∙ (ap (λ z. h.before ++ z) from ∙ sym (append_assoc h.before (s ∷ []) more));
          number = omega (arith, next, h.number, length-append h.before (s ∷ []));
          halts = λ k. Each-more (Halts v (lowered p).instrs t) h.before s (h.halts k) (halt k);
          shown = omega (arith, all, hs, shown_more h.before s);
          small = x.few;
          halted = omega arith;
          few = omega arith;
          whole = λ e. absurd (omega arith);
          none = λ e. absurd (omega arith);
          begun = λ lt. begun_now (first_or n);
          ended = omega (arith, ended_is);
          begun_by = bounded;
          ended_by = omega arith;
        }
      where
        at_most : (b : Bool) → cond b 1 0 ≤ 1
        at_most true = omega arith
        at_most false = omega arith

        first_or : (k : ℕ) → (k ≤ 1) ⊎ (1 < k)
        first_or k = cases_le k 1

        begun_now : (n ≤ 1) ⊎ (1 < n) → q.begun ≡ begun_first v p o t ss
        begun_now (inl le) =
            let hf = h.few in
            let is : n ≡ 1 = omega arith in
            x.begun ∙ (of_first-one n w.tally.begun r.begun is ∙ (begun_is ∙ (ap (begun_first v p o t) (sym from ∙ h.whole is))))
        begun_now (inr lt) = x.begun ∙ (of_first-more n w.tally.begun r.begun lt ∙ h.begun lt)

        bounded : q.begun ≤ t
        bounded = by (cases_le n 1)
          where
            by : (n ≤ 1) ⊎ (1 < n) → q.begun ≤ t
            by (inl le) =
                let hf = h.few in
                let is : n ≡ 1 = omega arith in
                let b = seen.begun in
                omega (arith, x.begun, of_first-one n w.tally.begun r.begun is, b)
            by (inr lt) = let b = h.begun_by in omega (arith, x.begun, of_first-more n w.tally.begun r.begun lt, b)

  -- there are fewer kinds than the number of the next run
  pub kinds_below : (rest : List (Start E)) (n : ℕ) (r : Survey) → Surveying rest n r → length r.kinds.different.keys + 1 ≤ n
  kinds_below rest n r h = omega (arith, few_kinds (sequence_from v p o t) h.before r.kinds h.kinds, h.number)

  -- all runs are taken in
  pub all_surveyed : (rest : List (Start E)) (n : ℕ) (r : Survey) → rest ≡ [] → Surveying rest n r → IsSurvey v p o t must ss r
  all_surveyed rest n r none h =
      let all : ss ≡ h.before = h.are ∙ (ap (λ z. h.before ++ z) none ∙ append-nil h.before) in
      let halted_rest : halted_count v p t rest ≡ 0 = ap (halted_count v p t) none in
      let ended_rest : most_ended v (lowered p).instrs (relevant_for p o) t rest ≡ 0 = ap (most_ended v (lowered p).instrs (relevant_for p o) t) none in
      let hs = h.shown in
      let small = h.small in
      let hh = h.halted in
      let he = h.ended in
      record {
        kinds = subst (λ z. AreKinds (map (sequence_from v p o t) z) r.kinds) (sym all) h.kinds;
        halts = λ m. subst (Each (Halts v (lowered p).instrs t)) (sym all) (h.halts m);
        few = omega (arith, hs, small, ap (shown_by_all v p o t) all);
        shown = hs ∙ ap (shown_by_all v p o t) (sym all);
        halted = omega arith;
        begun = by (cases_le n 1);
        ended = omega arith;
        begun_by = h.begun_by;
        ended_by = h.ended_by;
      }
    where
      by : (n ≤ 1) ⊎ (1 < n) → r.begun ≡ begun_first v p o t ss
      by (inl le) =
          let hf = h.few in
          let is : n ≡ 1 = omega arith in
          h.none is ∙ ap (begun_first v p o t) (sym none ∙ h.whole is)
      by (inr lt) = h.begun lt

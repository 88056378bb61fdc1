-- What is kept of some runs of a list, one after the other.
use Rattle.std.proofs.Common.{◌≡◌, ◌<◌, ◌≤◌, ℕ, ◌+◌, ◌-◌, List, [], ◌∷◌, ◌++◌, length, Bool, true, false, cond, refl, sym, ap, ◌∙◌, subst}
use Rattle.std.proofs.Common.{arith, append-nil, append_assoc, length-append, map, Some, None}
use Rattle.std.proofs.lemmas.List.{length-map, map-append, take_all}
use Rattle.timing_types.specs.Labelled.{LabelledProgram}
use Rattle.env_contract.specs.Env.{Env}
use Rattle.label_code.specs.Machine.{Machine, Event}
use Rattle.label_code.specs.Run.{Start}
use Rattle.code_lower.specs.Lowered.{lowered}
use Rattle.cycle_machine.specs.declared.end.RunEnd.{RunEnd}
use Rattle.cycle_machine.specs.declared.end.RunEnd.TheVariants.{Halted, Limit}
use Rattle.leak_bound.specs.Records.{Each}
use Rattle.leak_bound.specs.Sound.{Halts}
use Rattle.leak_audit.specs.declared.observe.Observed.{Observed}
use Rattle.leak_audit.specs.declared.survey.SurveyFault.{SurveyFault}
use Rattle.leak_audit.specs.declared.survey.SurveyFault.TheVariants.{Unfinished, TooMuch, Memory}
use Rattle.leak_audit.specs.Observed.{sequence_of, ObservesRun}
use Rattle.leak_audit.specs.declared.kinds.Kinds.{Kinds}
use Rattle.leak_audit.specs.Kept.{AreKinds}
use Rattle.leak_audit.specs.Surveyed.{run_of, sequence_from, shown_by, shown_by_all, IsRefused, IsFirstRefused, IsSurveyFault, unfinished}
use Rattle.leak_audit.proofs.Split.{Each-more}
use Rattle.leak_audit.proofs.Surveying.{few_kinds}
use Rattle.open_audit.specs.declared.runs.Kept.{Kept}
use Rattle.open_audit.specs.Kept.{Takes, Refuses, IsKept}

-- how a run ended
abbrev end_of : Bool → ℕ → RunEnd
end_of h c = cond h (Halted c) (Limit c)

goes_halted : (h : Bool) (c : ℕ) → unfinished true (end_of h c) ≡ None → h ≡ true
goes_halted true c e = refl
goes_halted false c e = absurd cc

stays : (h : Bool) (c k : ℕ) → unfinished true (end_of h c) ≡ Some k → (h ≡ false) × (k ≡ c)
stays true c k e = absurd cc
stays false c k e = (refl, cc)

module _ {E : Type 0} (v : Env E) (p : LabelledProgram) (o t : ℕ) (ss : List (Start E)) where
  shown_more : (xs : List (Start E)) (x : Start E) → shown_by_all v p o t (xs ++ x ∷ []) ≡ shown_by_all v p o t xs + shown_by v p o t x
  shown_more [] x = omega arith
  shown_more (y ∷ xs) x = omega (arith, shown_more xs x)

  -- the runs from n on are left
  pub record Keeping (rest : List (Start E)) (n : ℕ) (r : Kept) : Type 0 where
    pub before : List (Start E)
    pub kinds : AreKinds (map (sequence_from v p o t) before) r.kinds
    pub are : ss ≡ before ++ rest
    pub number : n ≡ length before + 1
    pub halts : Each (Halts v (lowered p).instrs t) before
    pub shown : r.shown ≡ shown_by_all v p o t before
    pub small : r.shown ≤ 16777216

  pub none_kept : (n : ℕ) (r : Kept) → n ≡ 1 → AreKinds [] r.kinds → r.shown ≡ 0 → Keeping ss n r
  none_kept n r is kinds shown =
      record { before = []; kinds = kinds; are = refl; number = is; halts = tt; shown = shown; small = omega (arith, shown) }

  module _ (s : Start E) (rest more : List (Start E)) (n : ℕ) (r : Kept) (from : rest ≡ s ∷ more) (h : Keeping rest n r) (w : Observed) (marked : List Bool)
      (seen : ObservesRun v p o marked (16777216 - r.shown) t s w) where
    abbrev run : Machine E
    run = run_of v p t s

    refused_now : (f : SurveyFault) → IsRefused v p o t true h.before s f → IsFirstRefused v p o t true ss f
    refused_now f k =
        let small = h.small in
        let shown = h.shown in
        record {
          before = h.before;
          refused = s;
          after = more;
          are = h.are ∙ ap (λ z. h.before ++ z) from;
          halt = λ m. h.halts;
          few = omega (arith, small, shown);
          why = k;
        }

    -- a run that is refused
    pub refuses : (f : SurveyFault) → Refuses r n w f → IsSurveyFault v p o t true ss f
    refuses (Unfinished k c) x =
        let y = stays run.halted run.core.clock c (ap (unfinished true) (sym seen.end) ∙ x.1) in
        refused_now (Unfinished k c) (refl, y.0, x.0 ∙ h.number, y.1)
    refuses (TooMuch m) x =
        let shown : w.tally.shown ≡ shown_by v p o t s = seen.tallies.shown in
        let all : m ≡ shown_by_all v p o t h.before + shown_by v p o t s = omega (arith, x.1, shown, h.shown) in
        let halted = goes_halted run.halted run.core.clock (ap (unfinished true) (sym seen.end) ∙ x.0) in
        refused_now (TooMuch m) ((λ must. halted), all, x.2)
    refuses Memory x = tt

    -- a run that is taken in
    pub one_kept : (m : ℕ) (q : Kept) → m ≡ n + 1 → Takes r w q → Keeping more m q
    one_kept m q next x =
        let shown : w.tally.shown ≡ shown_by v p o t s = seen.tallies.shown in
        let add = x.shown in
        let fits = x.few in
        let room : w.tally.shown ≤ 16777216 - r.shown = omega arith in
        let all : q.shown ≡ r.shown + shown_by v p o t s = omega arith in
        let short : length (sequence_from v p o t s) ≤ 16777216 - r.shown = subst (λ z. z ≤ 16777216 - r.shown) seen.tallies.shown room in
        let halt = goes_halted run.halted run.core.clock (ap (unfinished true) (sym seen.end) ∙ x.goes) in
        let hs = h.shown in
        record {
          before = h.before ++ s ∷ [];
          kinds =
              subst (λ z. AreKinds z q.kinds)
              (ap (λ z. map (sequence_from v p o t) h.before ++ z ∷ [])
              (seen.tallies.kept ∙ take_all (16777216 - r.shown) (sequence_from v p o t s) short)
              ∙ sym (map-append (sequence_from v p o t) h.before (s ∷ []))) (x.kinds (map (sequence_from v p o t) h.before) h.kinds);
          are = h.are ∙ (ap (λ z. h.before ++ z) from ∙ sym (append_assoc h.before (s ∷ []) more));
          number = omega (arith, next, h.number, length-append h.before (s ∷ []));
          halts = Each-more (Halts v (lowered p).instrs t) h.before s h.halts halt;
          shown = omega (arith, all, hs, shown_more h.before s);
          small = x.few;
        }

  -- there are fewer kinds than the number of the next run
  pub kinds_below : (rest : List (Start E)) (n : ℕ) (r : Kept) → Keeping rest n r → length r.kinds.different.keys + 1 ≤ n
  kinds_below rest n r h = omega (arith, few_kinds (sequence_from v p o t) h.before r.kinds h.kinds, h.number)

  -- all runs are taken in
  pub all_kept : (rest : List (Start E)) (n : ℕ) (r : Kept) → rest ≡ [] → Keeping rest n r → IsKept v p o t ss r
  all_kept rest n r none h =
      let all : ss ≡ h.before = h.are ∙ (ap (λ z. h.before ++ z) none ∙ append-nil h.before) in
      let hs = h.shown in
      let small = h.small in
      record {
        kinds = subst (λ z. AreKinds (map (sequence_from v p o t) z) r.kinds) (sym all) h.kinds;
        halts = subst (Each (Halts v (lowered p).instrs t)) (sym all) h.halts;
        few = omega (arith, hs, small, ap (shown_by_all v p o t) all);
      }

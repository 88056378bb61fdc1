-- Where one environment does what another does, audits of pairs of starts tell the same.
use Rattle.std.proofs.Common.{◌≡◌, ℕ, ◌+◌, ◌<◌, ◌≤◌, List, [], ◌∷◌, ◌++◌, length, map, Bool, true, false, refl, sym, ap, ap₂, ◌∙◌, subst}
use Rattle.std.specs.Prelude.{cond, ℤ, All}
use Rattle.std.proofs.lemmas.List.Elements.{All-head, All-tail}
use Rattle.mit_syntax.specs.Values.{read}
use Rattle.mit_syntax.specs.Program.{plan_of}
use Rattle.label_lattice.specs.Order.{Order}
use Rattle.timing_types.specs.Labelled.{LabelledProgram, order_of, labels_of, levels_of}
use Rattle.env_contract.specs.declared.place.Touch.{Touch}
use Rattle.env_contract.specs.Env.{Env}
use Rattle.env_contract.specs.Alike.{DoesAs}
use Rattle.label_code.specs.Machine.{Event}
use Rattle.label_code.specs.Shaped.{Code, IsShaped}
use Rattle.label_code.specs.Visible.{visible}
use Rattle.label_code.specs.Run.{Start, run_from}
use Rattle.label_code.specs.Alike.{HasLabelsBelow}
use Rattle.code_lower.specs.Lowered.{lowered}
use Rattle.leak_bound.specs.Records.{Each, Pairwise}
use Rattle.leak_bound.specs.Sound.{Halts}
use Rattle.start_file.specs.Starts.{StartValue, IsFor}
use Rattle.cycle_machine.specs.declared.end.RunEnd.TheVariants.{Halted, Limit}
use Rattle.cycle_machine.specs.Rest.{Told}
use Rattle.history_bound.specs.Told.{Pair, Paired}
use Rattle.history_bound.proofs.Told.{below_label, does_back, paired_back, each_over, pairwise_over, agree_over, log_same, clock_same, halted_same, seen_all}
use Rattle.history_bound.proofs.Told.{ended_all, length-paired, begun_over}
use Rattle.leak_audit.specs.declared.survey.SurveyFault.{SurveyFault}
use Rattle.leak_audit.specs.declared.survey.SurveyFault.TheVariants.{Unfinished as IsUnfinished, TooMuch as IsTooMuch, Memory as NoMemory}
use Rattle.leak_audit.specs.declared.what.What.{What}
use Rattle.leak_audit.specs.declared.what.What.TheVariants.{Variable, Partition}
use Rattle.leak_audit.specs.Agreement.{AgreeFor, Differs, IsFirstDifference, IsFirstApart, Disagrees, start_of, starts_of}
use Rattle.leak_audit.specs.Measured.{IsMeasure}
use Rattle.leak_audit.specs.Surveyed.{sequence_from, shown_by, shown_by_all, halted_count, relevant_for, IsRefused, IsFirstRefused}
use Rattle.leak_audit.specs.declared.report.AuditReport.{AuditReport}
use Rattle.leak_audit.specs.declared.report.AuditFault.{AuditFault}
use Rattle.leak_audit.specs.declared.report.AuditFault.TheVariants.{Disagree, Unfinished, TooMuch, Memory}
use Rattle.leak_audit.specs.Report.{IsReport, IsAuditFault}
use Rattle.cut_audit.specs.declared.report.CutReport.{CutReport}
use Rattle.cut_audit.specs.declared.report.CutFault.{CutFault}
use Rattle.cut_audit.specs.declared.report.CutFault.TheVariants as cut
use Rattle.cut_audit.specs.Report.{IsReport as IsCutReport, IsCutFault}
use Rattle.history_reports.specs.Reports.{AuditAlike, RunsTellAlike, AuditsTellAlike}

-- ---- pairs of starts from a list
pub paired_made : {E F : Type 0} (related : E → F → Type 0) (made : Order → List Touch → E) (made' : Order → List Touch → F) (order : Order) →
    ((touches : List Touch) → All (λ t. t.label.number < order.size) touches → related (made order touches) (made' order touches)) →
    (vs : List StartValue) → All (λ s. All (λ t. t.label.number < order.size) s.touches) vs
    → Paired related (starts_of made order vs) (starts_of made' order vs)
paired_made related made made' order both [] all = tt
paired_made related made made' order both (s ∷ vs) all = (
  (refl, both s.touches (All-head (λ (s : StartValue). All (λ (t : Touch). t.label.number < order.size) s.touches) s vs all)),
  paired_made related made made' order both vs (All-tail (λ (s : StartValue). All (λ (t : Touch). t.label.number < order.size) s.touches) s vs all),
)

-- the second list falls apart as the first does
record Split {E F : Type 0} (related : E → F → Type 0) (before : List (Start E)) (one : Start E) (after : List (Start E)) (rs : List (Start F)) : Type 0 where
  before' : List (Start F)
  one' : Start F
  after' : List (Start F)
  are : rs ≡ before' ++ one' ∷ after'
  first : Paired related before before'
  pair : Pair related one one'

split : {E F : Type 0} (related : E → F → Type 0) (before : List (Start E)) (one : Start E) (after : List (Start E)) (rs : List (Start F))
    → Paired related (before ++ one ∷ after) rs → Split related before one after rs
split related [] one after [] p = absurd p
split related [] one after (r ∷ rs) p = record { before' = []; one' = r; after' = rs; are = refl; first = tt; pair = p.0 }
split related (b ∷ before) one after [] p = absurd p
split related (b ∷ before) one after (r ∷ rs) p =
    let q = split related before one after rs p.1 in
    record { before' = r ∷ q.before'; one' = q.one'; after' = q.after'; are = ap (λ l. r ∷ l) q.are; first = (p.0, q.first); pair = q.pair }

-- ---- one difference, one way
differs_over : {E F : Type 0} (v : Env E) (w : Env F) (p : LabelledProgram) (related : E → F → Type 0) → DoesAs v w p.program.order.size related
    → (o : ℕ) → o < p.program.order.size →
    (s s' : Start E) (r r' : Start F) → Pair related s r → Pair related s' r' → (b : What) → Differs v p o s s' b → Differs w p o r r' b
differs_over v w p related does o low s s' r r' q q' (Variable x) d =
    (d.0, λ e. d.1 (ap (λ (m : List ℤ). read m x) q.0 ∙ e ∙ sym (ap (λ (m : List ℤ). read m x) q'.0)))
differs_over v w p related does o low s s' r r' q q' (Partition place l) d =
    let lt = below_label p.program.order l.number o low d.0 in
    (d.0, λ e. d.1 (does.part place l.number s.env r.env lt q.1 ∙ e ∙ sym (does.part place l.number s'.env r'.env lt q'.1)))

module _ {E F : Type 0} (v : Env E) (w : Env F) (p : LabelledProgram) (serves : Order → E → Type 0) (serves' : Order → F → Type 0) (related : E → F → Type 0)
    (does : DoesAs v w p.program.order.size related) (kept : (e : E) (f : F) → related e f
    → serves' p.program.order f) (o : ℕ) (low : o < p.program.order.size) where
  agrees : (s s' : Start E) (r r' : Start F) → Pair related s r → Pair related s' r' → AgreeFor v serves p o s s' → AgreeFor w serves' p o r r'
  agrees s s' r r' q q' a = agree_over v w p.program.order (serves p.program.order) (serves' p.program.order) related does kept
      (labels_of p) o low s s' r r' q q' a

  all_agree : (ss : List (Start E)) (rs : List (Start F)) → Paired related ss rs → Pairwise (AgreeFor v serves p o) ss → Pairwise (AgreeFor w serves' p o) rs
  all_agree ss rs q h = pairwise_over v w p.program.order (serves p.program.order) (serves' p.program.order) related does kept (labels_of p) o low ss rs q h

  first_difference : (s s' : Start E) (r r' : Start F) → Pair related s r → Pair related s' r' → (b : What) → IsFirstDifference v p o s s' b
      → IsFirstDifference w p o r r' b
  first_difference s s' r r' q q' b d =
      record {
        here = differs_over v w p related does o low s s' r r' q q' b d.here;
        first = λ c before h. d.first c before
            (differs_over w v p (λ f e. related e f) (does_back v w p.program.order.size related does) o low r r' s s' (sym q.0, q.1) (sym q'.0, q'.1) c h);
      }

  first_apart : (s : Start E) (r : Start F) → Pair related s r → (ss : List (Start E)) (rs : List (Start F)) → Paired related ss rs → (run : ℕ) (b : What)
      → IsFirstApart v serves p o s ss run b → IsFirstApart w serves' p o r rs run b
  first_apart s r q ss rs qs run b a =
      let z = split related a.before a.apart a.after rs (subst (λ l. Paired related l rs) a.are qs) in
      record {
        before = z.before';
        apart = z.one';
        after = z.after';
        are = z.are;
        agree = each_over related (AgreeFor v serves p o s) (AgreeFor w serves' p o r)
            (λ s' r' q' h. agrees s s' r r' q q' h) a.before z.before' z.first a.agree;
        number = a.number ∙ ap (λ n. n + 1) (length-paired related a.before z.before' z.first);
        differs = first_difference s a.apart r z.one' q z.pair b a.differs;
      }

  disagrees : (ss : List (Start E)) (rs : List (Start F)) → Paired related ss rs → (run : ℕ) (b : What) → Disagrees v serves p o ss run b
      → Disagrees w serves' p o rs run b
  disagrees [] [] q run b d = d
  disagrees [] (r ∷ rs) q run b d = absurd q
  disagrees (s ∷ ss) [] q run b d = absurd q
  disagrees (s ∷ ss) (r ∷ rs) q run b d = first_apart s r q.0 (s ∷ ss) (r ∷ rs) q run b d

  -- ---- runs
  module _ (labels : HasLabelsBelow p.program.order.size (lowered p).instrs) (t : ℕ) where
    seen_same : (ss : List (Start E)) (rs : List (Start F)) → Paired related ss rs → map (sequence_from v p o t) ss ≡ map (sequence_from w p o t) rs
    seen_same ss rs q = seen_all v w p.program.order related does (lowered p).instrs labels t (labels_of p) o ss rs q

    halted_is : (s : Start E) (r : Start F) → Pair related s r → (run_from v (lowered p).instrs t s).halted ≡ (run_from w (lowered p).instrs t r).halted
    halted_is s r q = halted_same v w p.program.order related does (lowered p).instrs labels t s r q

    halts_over : (ss : List (Start E)) (rs : List (Start F)) → Paired related ss rs → Each (Halts v (lowered p).instrs t) ss
        → Each (Halts w (lowered p).instrs t) rs
    halts_over ss rs q h = each_over related (Halts v (lowered p).instrs t) (Halts w (lowered p).instrs t) (λ s r z e. sym (halted_is s r z) ∙ e) ss rs q h

    shows_same : (s : Start E) (r : Start F) → Pair related s r → shown_by v p o t s ≡ shown_by w p o t r
    shows_same s r q = ap (λ (l : List Event). length (visible (order_of p) (labels_of p) o l))
        (log_same v w p.program.order related does (lowered p).instrs labels t s r q)

    pub show_all : (ss : List (Start E)) (rs : List (Start F)) → Paired related ss rs → shown_by_all v p o t ss ≡ shown_by_all w p o t rs
    show_all [] [] q = refl
    show_all [] (r ∷ rs) q = absurd q
    show_all (s ∷ ss) [] q = absurd q
    show_all (s ∷ ss) (r ∷ rs) q = ap₂ (λ (m n : ℕ). m + n) (shows_same s r q.0) (show_all ss rs q.1)

    halted_all : (ss : List (Start E)) (rs : List (Start F)) → Paired related ss rs → halted_count v p t ss ≡ halted_count w p t rs
    halted_all [] [] q = refl
    halted_all [] (r ∷ rs) q = absurd q
    halted_all (s ∷ ss) [] q = absurd q
    halted_all (s ∷ ss) (r ∷ rs) q = ap₂ (λ (b : Bool) (n : ℕ). cond b 1 0 + n) (halted_is s r q.0) (halted_all ss rs q.1)

    refused : (must : Bool) (before : List (Start E)) (before' : List (Start F)) → Paired related before before' → (s : Start E) (r : Start F)
        → Pair related s r → (f : SurveyFault) → IsRefused v p o t must before s f → IsRefused w p o t must before' r f
    refused must before before' qs s r q (IsUnfinished run cycle) h = (
      h.0,
      sym (halted_is s r q) ∙ h.1,
      h.2 ∙ ap (λ n. n + 1) (length-paired related before before' qs),
      h.3 ∙ clock_same v w p.program.order related does (lowered p).instrs labels t s r q,
    )
    refused must before before' qs s r q (IsTooMuch count) h = (
      λ e. sym (halted_is s r q) ∙ h.0 e,
      h.1 ∙ ap₂ (λ (m n : ℕ). m + n) (show_all before before' qs) (shows_same s r q),
      h.2,
    )
    refused must before before' qs s r q NoMemory h = h

    first_refused : (must : Bool) (ss : List (Start E)) (rs : List (Start F)) → Paired related ss rs → (f : SurveyFault) → IsFirstRefused v p o t must ss f
        → IsFirstRefused w p o t must rs f
    first_refused must ss rs q f a =
        let z = split related a.before a.refused a.after rs (subst (λ l. Paired related l rs) a.are q) in
        record {
          before = z.before';
          refused = z.one';
          after = z.after';
          are = z.are;
          halt = λ e. halts_over a.before z.before' z.first (a.halt e);
          few = subst (λ n. n ≤ 16777216) (show_all a.before z.before' z.first) a.few;
          why = refused must a.before z.before' z.first a.refused z.one' z.pair f a.why;
        }

    pub report_over : (ss : List (Start E)) (rs : List (Start F)) → Paired related ss rs → (r : AuditReport) → IsReport v serves p o t ss r
        → IsReport w serves' p o t rs r
    report_over ss rs q r a =
        record {
          agree = all_agree ss rs q a.agree;
          halted = halts_over ss rs q a.halted;
          few = subst (λ n. n ≤ 16777216) (show_all ss rs q) a.few;
          runs = a.runs ∙ length-paired related ss rs q;
          mitigations = begun_over related p.program.order (labels_of p) (levels_of p) o (plan_of p.program) r.mitigations ss rs q a.mitigations;
          measures = subst (λ (ls : List (List Event)). IsMeasure p.program.order o t r.mitigations ls r.measures) (seen_same ss rs q) a.measures;
        }

    pub cut_report_over : (ss : List (Start E)) (rs : List (Start F)) → Paired related ss rs → (r : CutReport) → IsCutReport v serves p o t ss r
        → IsCutReport w serves' p o t rs r
    cut_report_over ss rs q r a =
        record {
          agree = all_agree ss rs q a.agree;
          few = subst (λ n. n ≤ 16777216) (show_all ss rs q) a.few;
          runs = a.runs ∙ length-paired related ss rs q;
          ended = a.ended ∙ ended_all v w p.program.order related does (lowered p).instrs labels t (relevant_for p o) ss rs q;
          halted = a.halted ∙ halted_all ss rs q;
          measures = subst (λ (ls : List (List Event)). IsMeasure p.program.order o t r.ended ls r.measures) (seen_same ss rs q) a.measures;
        }

    pub fault_over : (ss : List (Start E)) (rs : List (Start F)) → Paired related ss rs → (f : AuditFault) → IsAuditFault v serves p o t ss f
        → IsAuditFault w serves' p o t rs f
    fault_over ss rs q (Disagree run what) a = disagrees ss rs q run what a
    fault_over ss rs q (Unfinished run cycle) a = (all_agree ss rs q a.0, first_refused true ss rs q (IsUnfinished run cycle) a.1)
    fault_over ss rs q (TooMuch count) a = (all_agree ss rs q a.0, first_refused true ss rs q (IsTooMuch count) a.1)
    fault_over ss rs q Memory a = a

    pub cut_fault_over : (ss : List (Start E)) (rs : List (Start F)) → Paired related ss rs → (f : CutFault) → IsCutFault v serves p o t ss f
        → IsCutFault w serves' p o t rs f
    cut_fault_over ss rs q (cut.Disagree run what) a = disagrees ss rs q run what a
    cut_fault_over ss rs q (cut.TooMuch count) a = (all_agree ss rs q a.0, first_refused false ss rs q (IsTooMuch count) a.1)
    cut_fault_over ss rs q cut.Memory a = a

-- ---- both ways
audit_alike : {E F : Type 0} (v : Env E) (w : Env F) (p : LabelledProgram) (serves : Order → E → Type 0) (serves' : Order → F → Type 0)
    (related : E → F → Type 0) → DoesAs v w p.program.order.size related
    → ((e : E) (f : F) → related e f → serves p.program.order e × serves' p.program.order f) →
    HasLabelsBelow p.program.order.size (lowered p).instrs → (o t : ℕ) → o < p.program.order.size → (ss : List (Start E)) (rs : List (Start F))
    → Paired related ss rs → AuditAlike v serves w serves' p o t ss rs
audit_alike {E} {F} v w p serves serves' related does kept labels o t low ss rs q =
    record {
      agree = (all_agree v w p serves serves' related does there o low ss rs q, all_agree w v p serves' serves back does' here o low rs ss q');
      shown = show_all v w p serves serves' related does there o low labels t ss rs q;
      report = λ r. (
        report_over v w p serves serves' related does there o low labels t ss rs q r,
        report_over w v p serves' serves back does' here o low labels t rs ss q' r,
      );
      fault = λ f. (
        fault_over v w p serves serves' related does there o low labels t ss rs q f,
        fault_over w v p serves' serves back does' here o low labels t rs ss q' f,
      );
      cut_report = λ r. (
        cut_report_over v w p serves serves' related does there o low labels t ss rs q r,
        cut_report_over w v p serves' serves back does' here o low labels t rs ss q' r,
      );
      cut_fault = λ f. (
        cut_fault_over v w p serves serves' related does there o low labels t ss rs q f,
        cut_fault_over w v p serves' serves back does' here o low labels t rs ss q' f,
      );
    }
  where
    back : F → E → Type 0
    back f e = related e f

    does' : DoesAs w v p.program.order.size back
    does' = does_back v w p.program.order.size related does

    q' : Paired back rs ss
    q' = paired_back related ss rs q

    there : (e : E) (f : F) → related e f → serves' p.program.order f
    there e f r = (kept e f r).1

    here : (f : F) (e : E) → back f e → serves p.program.order e
    here f e r = (kept e f r).0

labels_below : (c : Code) → IsShaped c → HasLabelsBelow c.order.size c.instrs
labels_below c shaped a i e = let fine = shaped.1.each a i e in (fine.er, fine.ew)

module _ {E F : Type 0} (v : Env E) (made : Order → List Touch → E) (w : Order → Env F) (made' : Order → List Touch → F) (related : Order → E → F → Type 0)
    (does : (order : Order) → DoesAs v (w order) order.size (related order)) (starts : (order : Order) (touches : List Touch)
    → All (λ t. t.label.number < order.size) touches → related order (made order touches) (made' order touches)) where
  pub runs_tell_alike : RunsTellAlike v made w made'
  runs_tell_alike c shaped s below t =
      let q : Pair (related c.order) (start_of made c.order s) (start_of made' c.order s) = (refl, starts c.order s.touches below) in
      let labels = labels_below c shaped in
      let log = log_same v (w c.order) c.order (related c.order) (does c.order) c.instrs labels t _ _ q in
      let clock = clock_same v (w c.order) c.order (related c.order) (does c.order) c.instrs labels t _ _ q in
      let halted = halted_same v (w c.order) c.order (related c.order) (does c.order) c.instrs labels t _ _ q in
      let told : List Event → Bool → ℕ → Told = λ l b n. record { events = l; end = cond b (Halted n) (Limit n) } in
      let one : Start E = start_of made c.order s in
      let other : Start F = start_of made' c.order s in
      ap (λ l. told l (run_from v c.instrs t one).halted (run_from v c.instrs t one).core.clock) log
      ∙ ap (λ b. told (run_from (w c.order) c.instrs t other).core.log b (run_from v c.instrs t one).core.clock) halted
      ∙ ap (λ n. told (run_from (w c.order) c.instrs t other).core.log (run_from (w c.order) c.instrs t other).halted n) clock

  pub audits_tell_alike : (serves : Order → E → Type 0) (serves' : Order → F → Type 0)
      → ((order : Order) (e : E) (f : F) → related order e f → serves order e × serves' order f) → AuditsTellAlike v made w made' serves serves'
  audits_tell_alike serves serves' kept p shaped o t low vs all =
      audit_alike v (w p.program.order) p serves serves' (related p.program.order) (does p.program.order) (kept p.program.order)
      (labels_below (lowered p) shaped) o t low
      (starts_of made p.program.order vs) (starts_of made' p.program.order vs)
      (paired_made (related p.program.order) made made' p.program.order (starts p.program.order) vs (touches_of vs all))
    where
      touches_of : (vs : List StartValue) → All (IsFor p.program) vs → All (λ s. All (λ t. t.label.number < p.program.order.size) s.touches) vs
      touches_of vs all k d lt = (all k d lt).touches

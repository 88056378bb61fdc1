-- Why the report is true, and its count within the bound.
use Rattle.std.proofs.Common.{◌≡◌, ◌<◌, ◌≤◌, ℕ, ◌^◌, List, [], ◌∷◌, length, map, true, refl, sym, ap, ◌∙◌, subst}
use Rattle.std.specs.List.{count_by}
use Rattle.label_lattice.specs.Order.{Order}
use Rattle.mit_syntax.specs.Program.{plan_of}
use Rattle.timing_types.specs.Labelled.{LabelledProgram, order_of, labels_of, levels_of}
use Rattle.source_meaning.specs.Source.{started_in}
use Rattle.env_contract.specs.Env.{Env}
use Rattle.label_code.specs.Run.{Start}
use Rattle.code_lower.specs.Follows.{KeepsOrder}
use Rattle.code_lower.specs.Lowered.{lowered}
use Rattle.leak_bound.specs.Relevant.{Begins}
use Rattle.leak_bound.specs.Records.{Each, Pairwise, distinct_count}
use Rattle.leak_bound.specs.Sound.{Halts, FirstBegins, Sound, bound}
use Rattle.leak_bound.proofs.Final.{begun-told, begins_one}
use Rattle.leak_audit.specs.declared.measure.Measures.{Measures}
use Rattle.leak_audit.specs.declared.survey.Survey.{Survey}
use Rattle.leak_audit.specs.Agreement.{AgreeFor}
use Rattle.leak_audit.specs.Measured.{IsMeasure}
use Rattle.leak_audit.specs.Sequences.{same_sequence}
use Rattle.leak_audit.specs.Surveyed.{relevant_for, run_of, sequence_from, begun_first, IsSurvey}
use Rattle.leak_audit.proofs.Classing.{tests_sequences}
use Rattle.leak_audit.proofs.Measuring.{within, measure_of}
use Rattle.leak_audit.specs.declared.report.AuditReport.{AuditReport}
use Rattle.leak_audit.specs.Report.{IsReport}

-- the report that a survey and its measures make
pub record Reports (n : ℕ) (s : Survey) (m : Measures) (r : AuditReport) : Type 0 where
  pub runs : r.runs ≡ n
  pub mitigations : r.mitigations ≡ s.begun
  pub measures : r.measures ≡ m

-- the first run of a list begins one number of relevant mitigations
pub first_one : {E : Type 0} (p : LabelledProgram) (o : ℕ) (ss : List (Start E)) (k j : ℕ)
    → FirstBegins (order_of p) (labels_of p) (levels_of p) o (plan_of p.program) ss k
    → FirstBegins (order_of p) (labels_of p) (levels_of p) o (plan_of p.program) ss j → k ≡ j
first_one p o [] k j a b = a ∙ sym b
first_one p o (s ∷ ss) k j a b = begins_one (order_of p) (labels_of p) (levels_of p) o (plan_of p.program) s.memory k j a b

module _ {E : Type 0} (v : Env E) (serves : Order → E → Type 0) (p : LabelledProgram) (o t : ℕ)
    (keeps : KeepsOrder v (lowered p).instrs (plan_of p.program)) where
  -- the run of a start that halts begins as many relevant mitigations as the program does
  begins : (s : Start E) → Halts v (lowered p).instrs t s
      → Begins (order_of p) (labels_of p) (levels_of p) o (plan_of p.program) s.memory (begun_first v p o t (s ∷ []))
  begins s h =
      let f = keeps.follows s t in
      (f.0, f.2 h, ap (λ z. count_by (relevant_for p o) (started_in z)) (sym f.1) ∙ sym (begun-told (relevant_for p o) (run_of v p t s).core.log))

  first_begins : (ss : List (Start E)) (k : ℕ) → Each (Halts v (lowered p).instrs t) ss → k ≡ begun_first v p o t ss
      → FirstBegins (order_of p) (labels_of p) (levels_of p) o (plan_of p.program) ss k
  first_begins [] k h e = e
  first_begins (s ∷ ss) k h e = subst (λ z. Begins (order_of p) (labels_of p) (levels_of p) o (plan_of p.program) s.memory z) (sym e) (begins s h.0)

  pub is_report : (ss : List (Start E)) → Pairwise (AgreeFor v serves p o) ss → (s : Survey) → IsSurvey v p o t true ss s → (m : Measures)
      → IsMeasure p.program.order o t s.begun (map (sequence_from v p o t) ss) m
      → (r : AuditReport) → Reports (length ss) s m r → IsReport v serves p o t ss r
  is_report ss agree s survey m measure r made = record {
    agree = agree;
    halted = survey.halts refl;
    few = survey.few;
    runs = made.runs;
    mitigations = first_begins ss r.mitigations (survey.halts refl) (made.mitigations ∙ survey.begun);
    measures = measure_of p.program.order o t s.begun r.mitigations (map (sequence_from v p o t) ss) m r.measures
        (sym made.mitigations) (sym made.measures) measure;
  }

pub report_within : {E : Type 0} (v : Env E) (serves : Order → E → Type 0) (p : LabelledProgram) (o t : ℕ)
    → Sound v p.program.order (serves p.program.order) (labels_of p) (levels_of p) (lowered p).instrs (plan_of p.program)
    → o < p.program.order.size → 0 < t → (ss : List (Start E)) (r : AuditReport) → IsReport v serves p o t ss r
    → r.measures.distinct ≤ r.measures.base ^ r.measures.exponent
report_within v serves p o t sound low some ss r is =
    let seqs = map (sequence_from v p o t) ss in
    let few = sound.few o low t some ss is.agree is.halted same_sequence tests_sequences in
    let same : few.0 ≡ r.mitigations = first_one p o ss few.0 r.mitigations few.1 is.mitigations in
    within p.program.order o t r.mitigations seqs r.measures is.measures
    (subst (λ z. distinct_count same_sequence seqs ≤ bound p.program.order o t z) same few.3)

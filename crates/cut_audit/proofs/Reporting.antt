-- Why the report is true, and its count within the bound.
use Rattle.std.proofs.Common.{◌≡◌, ◌<◌, ◌≤◌, ℕ, ◌^◌, List, length, map, false, sym, ◌∙◌, subst}
use Rattle.label_lattice.specs.Order.{Order}
use Rattle.mit_syntax.specs.Program.{plan_of}
use Rattle.timing_types.specs.Labelled.{LabelledProgram, labels_of, levels_of}
use Rattle.env_contract.specs.Env.{Env}
use Rattle.label_code.specs.Run.{Start}
use Rattle.code_lower.specs.Lowered.{lowered}
use Rattle.leak_bound.specs.Records.{Pairwise, distinct_count}
use Rattle.leak_bound.specs.Sound.{CutSound, bound}
use Rattle.leak_audit.specs.declared.measure.Measures.{Measures}
use Rattle.leak_audit.specs.declared.survey.Survey.{Survey}
use Rattle.leak_audit.specs.declared.survey.SurveyFault.{SurveyFault}
use Rattle.leak_audit.specs.declared.survey.SurveyFault.TheVariants.{Unfinished, TooMuch, Memory}
use Rattle.leak_audit.specs.Agreement.{AgreeFor}
use Rattle.leak_audit.specs.Measured.{IsMeasure}
use Rattle.leak_audit.specs.Sequences.{same_sequence}
use Rattle.leak_audit.specs.Surveyed.{sequence_from, IsSurvey, IsSurveyFault}
use Rattle.leak_audit.proofs.Classing.{tests_sequences}
use Rattle.leak_audit.proofs.Measuring.{within, measure_of}
use Rattle.cut_audit.specs.declared.report.CutReport.{CutReport}
use Rattle.cut_audit.specs.Report.{IsReport, MayCut}

-- the report that a survey and its measures make
pub record Reports (n : ℕ) (s : Survey) (m : Measures) (r : CutReport) : Type 0 where
  pub runs : r.runs ≡ n
  pub ended : r.ended ≡ s.ended
  pub halted : r.halted ≡ s.halted
  pub measures : r.measures ≡ m

module _ {E : Type 0} (v : Env E) (serves : Order → E → Type 0) (p : LabelledProgram) (o t : ℕ) (ss : List (Start E)) where
  -- runs that need not halt are not refused for it
  pub may_cut : (f : SurveyFault) → IsSurveyFault v p o t false ss f → MayCut f
  may_cut (Unfinished run cycle) h = let must = h.why.0 in absurd cc
  may_cut (TooMuch count) h = tt
  may_cut Memory h = tt

  pub is_report : Pairwise (AgreeFor v serves p o) ss → (s : Survey) → IsSurvey v p o t false ss s → (m : Measures)
      → IsMeasure p.program.order o t s.ended (map (sequence_from v p o t) ss) m
      → (r : CutReport) → Reports (length ss) s m r → IsReport v serves p o t ss r
  is_report agree s survey m measure r made = record {
    agree = agree;
    few = survey.few;
    runs = made.runs;
    ended = made.ended ∙ survey.ended;
    halted = made.halted ∙ survey.halted;
    measures = measure_of p.program.order o t s.ended r.ended (map (sequence_from v p o t) ss) m r.measures (sym made.ended) (sym made.measures) measure;
  }

  pub report_within : CutSound v p.program.order (serves p.program.order) (labels_of p) (levels_of p) (lowered p).instrs (plan_of p.program)
      → o < p.program.order.size → 0 < t
      → (r : CutReport) → IsReport v serves p o t ss r → r.measures.distinct ≤ r.measures.base ^ r.measures.exponent
  report_within sound low some r is =
      let seqs = map (sequence_from v p o t) ss in
      let few = sound.few o low t some ss is.agree same_sequence tests_sequences in
      within p.program.order o t r.ended seqs r.measures is.measures
      (subst (λ z. distinct_count same_sequence seqs ≤ bound p.program.order o t z) (sym is.ended) few)

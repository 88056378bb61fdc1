-- An audit has one answer.
use Rattle.std.proofs.Common.{◌≡◌, ℕ, ◌≤◌, List, false, refl, sym, ap, ◌∙◌, map}
use Rattle.std.specs.Prelude.{◌≢◌}
use Rattle.label_lattice.specs.Order.{Order}
use Rattle.timing_types.specs.Labelled.{LabelledProgram}
use Rattle.env_contract.specs.Env.{Env}
use Rattle.label_code.specs.Run.{Start}
use Rattle.leak_bound.specs.Records.{Pairwise}
use Rattle.leak_audit.specs.declared.survey.SurveyFault.TheVariants.{TooMuch as IsTooMuch}
use Rattle.leak_audit.specs.Agreement.{AgreeFor}
use Rattle.leak_audit.specs.OneAnswer.{HasOneAnswer}
use Rattle.leak_audit.specs.Surveyed.{sequence_from, shown_by_all}
use Rattle.leak_audit.proofs.Measuring.{same_measures}
use Rattle.leak_audit.proofs.OneReason.{disagrees_once, not_apart, refused_once, not_taken}
use Rattle.cut_audit.specs.declared.report.CutReport.{CutReport}
use Rattle.cut_audit.specs.declared.report.CutFault.{CutFault}
use Rattle.cut_audit.specs.declared.report.CutFault.TheVariants.{Disagree, TooMuch, Memory}
use Rattle.cut_audit.specs.Report.{IsReport, IsCutFault, SameReport, fault_of_survey}

module _ {E : Type 0} (v : Env E) (serves : Order → E → Type 0) (p : LabelledProgram) (o t : ℕ) (ss : List (Start E)) where
  pub same_report : (r s : CutReport) → IsReport v serves p o t ss r → IsReport v serves p o t ss s → SameReport r s
  same_report r s a b =
      let ended : r.ended ≡ s.ended = a.ended ∙ sym b.ended in
      record {
        runs = a.runs ∙ sym b.runs;
        ended = ended;
        halted = a.halted ∙ sym b.halted;
        measures = same_measures p.program.order o t r.ended s.ended (map (sequence_from v p o t) ss) r.measures s.measures ended a.measures b.measures;
      }

  pub same_fault : (f g : CutFault) → IsCutFault v serves p o t ss f → IsCutFault v serves p o t ss g → f ≢ Memory → g ≢ Memory → f ≡ g
  same_fault (Disagree run w) (Disagree run' w') a b n m =
      let same = disagrees_once v serves p o ss run run' w w' a b in
      ap (λ z. Disagree z w) same.0 ∙ ap (λ z. Disagree run' z) same.1
  same_fault (Disagree run w) (TooMuch k) a b n m = absurd (not_apart v serves p o ss run w b.0 a)
  same_fault (TooMuch k) (Disagree run w) a b n m = absurd (not_apart v serves p o ss run w a.0 b)
  same_fault (TooMuch k) (TooMuch j) a b n m = ap fault_of_survey (refused_once v serves p o t false ss (IsTooMuch k) (IsTooMuch j) a.1 b.1)
  same_fault Memory g a b n m = absurd (n refl)
  same_fault f Memory a b n m = absurd (m refl)

  -- starts that agree and whose runs show few enough assignments are refused for want of memory alone
  pub no_cut_fault : (f : CutFault) → Pairwise (AgreeFor v serves p o) ss → shown_by_all v p o t ss ≤ 16777216 → IsCutFault v serves p o t ss f → f ≡ Memory
  no_cut_fault (Disagree run w) agree few b = absurd (not_apart v serves p o ss run w agree b)
  no_cut_fault (TooMuch k) agree few b = absurd (not_taken v serves p o t false ss (IsTooMuch k) b.1 (λ m. absurd cc) few)
  no_cut_fault Memory agree few b = refl

  pub not_fault : (r : CutReport) (f : CutFault) → IsReport v serves p o t ss r → IsCutFault v serves p o t ss f → f ≡ Memory
  not_fault r f a b = no_cut_fault f a.agree a.few b

  pub answers_once : HasOneAnswer (IsReport v serves p o t ss) SameReport (IsCutFault v serves p o t ss) Memory
  answers_once = record { report = same_report; fault = same_fault; either = not_fault }

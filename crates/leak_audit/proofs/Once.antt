-- An audit has one answer.
use Rattle.std.proofs.Common.{◌≡◌, ℕ, ◌≤◌, List, true, refl, sym, ap, ◌∙◌, map}
use Rattle.std.specs.Prelude.{◌≢◌}
use Rattle.label_lattice.specs.Order.{Order}
use Rattle.timing_types.specs.Labelled.{LabelledProgram}
use Rattle.env_contract.specs.Env.{Env}
use Rattle.label_code.specs.Run.{Start}
use Rattle.code_lower.specs.Lowered.{lowered}
use Rattle.leak_bound.specs.Records.{Each, Pairwise}
use Rattle.leak_bound.specs.Sound.{Halts}
use Rattle.leak_audit.specs.declared.survey.SurveyFault.TheVariants.{Unfinished as IsUnfinished, TooMuch as IsTooMuch}
use Rattle.leak_audit.specs.Agreement.{AgreeFor}
use Rattle.leak_audit.specs.Surveyed.{sequence_from, shown_by_all}
use Rattle.leak_audit.proofs.OneReason.{disagrees_once, not_apart, refused_once, not_taken}
use Rattle.leak_audit.specs.declared.report.AuditReport.{AuditReport}
use Rattle.leak_audit.specs.declared.report.AuditFault.{AuditFault}
use Rattle.leak_audit.specs.declared.report.AuditFault.TheVariants.{Disagree, Unfinished, TooMuch, Memory}
use Rattle.leak_audit.specs.OneAnswer.{HasOneAnswer}
use Rattle.leak_audit.specs.Report.{IsReport, IsAuditFault, SameReport, fault_of_survey}
use Rattle.leak_audit.proofs.Measuring.{same_measures}
use Rattle.leak_audit.proofs.Reporting.{first_one}

module _ {E : Type 0} (v : Env E) (serves : Order → E → Type 0) (p : LabelledProgram) (o t : ℕ) (ss : List (Start E)) where
  pub same_report : (r s : AuditReport) → IsReport v serves p o t ss r → IsReport v serves p o t ss s → SameReport r s
  same_report r s a b =
      let mitigations : r.mitigations ≡ s.mitigations = first_one p o ss r.mitigations s.mitigations a.mitigations b.mitigations in
      record {
        runs = a.runs ∙ sym b.runs;
        mitigations = mitigations;
        measures = same_measures p.program.order o t r.mitigations s.mitigations (map (sequence_from v p o t) ss) r.measures s.measures
            mitigations a.measures b.measures;
      }

  pub same_fault : (f g : AuditFault) → IsAuditFault v serves p o t ss f → IsAuditFault v serves p o t ss g → f ≢ Memory → g ≢ Memory → f ≡ g
  same_fault (Disagree run w) (Disagree run' w') a b n m =
      let same = disagrees_once v serves p o ss run run' w w' a b in
      ap (λ z. Disagree z w) same.0 ∙ ap (λ z. Disagree run' z) same.1
  same_fault (Disagree run w) (Unfinished run' c) a b n m = absurd (not_apart v serves p o ss run w b.0 a)
  same_fault (Disagree run w) (TooMuch k) a b n m = absurd (not_apart v serves p o ss run w b.0 a)
  same_fault (Unfinished run c) (Disagree run' w) a b n m = absurd (not_apart v serves p o ss run' w a.0 b)
  same_fault (Unfinished run c) (Unfinished run' c') a b n m =
      ap fault_of_survey (refused_once v serves p o t true ss (IsUnfinished run c) (IsUnfinished run' c') a.1 b.1)
  same_fault (Unfinished run c) (TooMuch k) a b n m = ap fault_of_survey (refused_once v serves p o t true ss (IsUnfinished run c) (IsTooMuch k) a.1 b.1)
  same_fault (TooMuch k) (Disagree run w) a b n m = absurd (not_apart v serves p o ss run w a.0 b)
  same_fault (TooMuch k) (Unfinished run c) a b n m = ap fault_of_survey (refused_once v serves p o t true ss (IsTooMuch k) (IsUnfinished run c) a.1 b.1)
  same_fault (TooMuch k) (TooMuch j) a b n m = ap fault_of_survey (refused_once v serves p o t true ss (IsTooMuch k) (IsTooMuch j) a.1 b.1)
  same_fault Memory g a b n m = absurd (n refl)
  same_fault f Memory a b n m = absurd (m refl)

  -- starts that agree and whose runs halt and show few enough assignments are refused for want of memory alone
  pub no_audit_fault : (f : AuditFault) → Pairwise (AgreeFor v serves p o) ss → Each (Halts v (lowered p).instrs t) ss → shown_by_all v p o t ss ≤ 16777216
      → IsAuditFault v serves p o t ss f → f ≡ Memory
  no_audit_fault (Disagree run w) agree halted few b = absurd (not_apart v serves p o ss run w agree b)
  no_audit_fault (Unfinished run c) agree halted few b = absurd (not_taken v serves p o t true ss (IsUnfinished run c) b.1 (λ m. halted) few)
  no_audit_fault (TooMuch k) agree halted few b = absurd (not_taken v serves p o t true ss (IsTooMuch k) b.1 (λ m. halted) few)
  no_audit_fault Memory agree halted few b = refl

  pub not_fault : (r : AuditReport) (f : AuditFault) → IsReport v serves p o t ss r → IsAuditFault v serves p o t ss f → f ≡ Memory
  not_fault r f a b = no_audit_fault f a.agree a.halted a.few b

  pub answers_once : HasOneAnswer (IsReport v serves p o t ss) SameReport (IsAuditFault v serves p o t ss) Memory
  answers_once = record { report = same_report; fault = same_fault; either = not_fault }

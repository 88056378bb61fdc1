-- The report of an audit, and why there is none.
use Rattle.std.specs.Prelude.{◌≡◌, ◌≤◌, ℕ, List, length, map, true}
use Rattle.label_lattice.specs.Order.{Order}
use Rattle.mit_syntax.specs.Program.{plan_of}
use Rattle.timing_types.specs.Labelled.{LabelledProgram, order_of, labels_of, levels_of}
use Rattle.env_contract.specs.Env.{Env}
use Rattle.label_code.specs.Run.{Start}
use Rattle.code_lower.specs.Lowered.{lowered}
use Rattle.leak_bound.specs.Records.{Each, Pairwise}
use Rattle.leak_bound.specs.Sound.{Halts, FirstBegins}
use Rattle.leak_audit.specs.declared.agreement.Disagreement.{Disagreement}
use Rattle.leak_audit.specs.declared.agreement.Disagreement.TheVariants.{Differs, Memory as NoRoom}
use Rattle.leak_audit.specs.declared.survey.SurveyFault.{SurveyFault}
use Rattle.leak_audit.specs.declared.survey.SurveyFault.TheVariants.{Unfinished as IsUnfinished, TooMuch as IsTooMuch, Memory as NoMemory}
use Rattle.leak_audit.specs.Agreement.{AgreeFor, Disagrees}
use Rattle.leak_audit.specs.Measured.{IsMeasure, SameMeasures}
use Rattle.leak_audit.specs.OneAnswer.{HasOneAnswer}
use Rattle.leak_audit.specs.Surveyed.{sequence_from, shown_by_all, IsFirstRefused}
use Rattle.leak_audit.specs.declared.report.AuditReport.{AuditReport}
use Rattle.leak_audit.specs.declared.report.AuditFault.{AuditFault}
use Rattle.leak_audit.specs.declared.report.AuditFault.TheVariants.{Disagree, Unfinished, TooMuch, Memory}

-- The starts agree pairwise for the observer, all have halted by T, and they show few enough assignments. The
-- report has their number, that of relevant mitigations that the first run begins, and the measures of the
-- sequences seen.
pub record IsReport {E : Type 0} (v : Env E) (serves : Order → E → Type 0) (p : LabelledProgram) (o t : ℕ) (ss : List (Start E))
    (r : AuditReport) : Type 0 where
  pub agree : Pairwise (AgreeFor v serves p o) ss
  pub halted : Each (Halts v (lowered p).instrs t) ss
  pub few : shown_by_all v p o t ss ≤ 16777216
  pub runs : r.runs ≡ length ss
  pub mitigations : FirstBegins (order_of p) (labels_of p) (levels_of p) o (plan_of p.program) ss r.mitigations
  pub measures : IsMeasure p.program.order o t r.mitigations (map (sequence_from v p o t) ss) r.measures

-- Some start does not agree with the first one; or all agree, and then the first run decides that has not
-- halted by T or shows too much.
abbrev pub IsAuditFault : {E : Type 0} → Env E → (Order → E → Type 0) → LabelledProgram → ℕ → ℕ → List (Start E) → AuditFault → Type 0
IsAuditFault v serves p o t ss (Disagree run what) = Disagrees v serves p o ss run what
IsAuditFault v serves p o t ss (Unfinished run cycle) =
    Pairwise (AgreeFor v serves p o) ss × IsFirstRefused v p o t true ss (IsUnfinished run cycle)
IsAuditFault v serves p o t ss (TooMuch count) =
    Pairwise (AgreeFor v serves p o) ss × IsFirstRefused v p o t true ss (IsTooMuch count)
IsAuditFault v serves p o t ss Memory = Unit {0}

-- two reports have the same numbers and classes
pub record SameReport (r s : AuditReport) : Type 0 where
  pub runs : r.runs ≡ s.runs
  pub mitigations : r.mitigations ≡ s.mitigations
  pub measures : SameMeasures r.measures s.measures

-- every audit has one answer
abbrev pub AnswersOnceAll : {E : Type 0} → Env E → (Order → E → Type 0) → Type 0
AnswersOnceAll {E} v serves =
    (p : LabelledProgram) (o t : ℕ) (ss : List (Start E)) → HasOneAnswer (IsReport v serves p o t ss) SameReport (IsAuditFault v serves p o t ss) Memory

-- the fault that a part's fault becomes
abbrev pub fault_of_disagreement : Disagreement → AuditFault
fault_of_disagreement (Differs run what) = Disagree run what
fault_of_disagreement NoRoom = Memory

abbrev pub fault_of_survey : SurveyFault → AuditFault
fault_of_survey (IsUnfinished run cycle) = Unfinished run cycle
fault_of_survey (IsTooMuch count) = TooMuch count
fault_of_survey NoMemory = Memory

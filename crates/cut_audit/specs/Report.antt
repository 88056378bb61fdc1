-- The report of an audit of runs that may not have halted, and why there is none.
use Rattle.std.specs.Prelude.{◌≡◌, ◌≤◌, ℕ, List, length, map, false}
use Rattle.label_lattice.specs.Order.{Order}
use Rattle.timing_types.specs.Labelled.{LabelledProgram}
use Rattle.env_contract.specs.Env.{Env}
use Rattle.label_code.specs.Run.{Start}
use Rattle.code_lower.specs.Lowered.{lowered}
use Rattle.leak_bound.specs.Records.{Pairwise}
use Rattle.leak_bound.specs.Sound.{most_ended}
use Rattle.leak_audit.specs.declared.agreement.Disagreement.{Disagreement}
use Rattle.leak_audit.specs.declared.agreement.Disagreement.TheVariants.{Differs, Memory as NoRoom}
use Rattle.leak_audit.specs.declared.survey.SurveyFault.{SurveyFault}
use Rattle.leak_audit.specs.declared.survey.SurveyFault.TheVariants.{Unfinished as IsUnfinished, TooMuch as IsTooMuch, Memory as NoMemory}
use Rattle.leak_audit.specs.Agreement.{AgreeFor, Disagrees}
use Rattle.leak_audit.specs.Measured.{IsMeasure, SameMeasures}
use Rattle.leak_audit.specs.OneAnswer.{HasOneAnswer}
use Rattle.leak_audit.specs.Surveyed.{relevant_for, sequence_from, shown_by_all, halted_count, IsFirstRefused}
use Rattle.cut_audit.specs.declared.report.CutReport.{CutReport}
use Rattle.cut_audit.specs.declared.report.CutFault.{CutFault}
use Rattle.cut_audit.specs.declared.report.CutFault.TheVariants.{Disagree, TooMuch, Memory}

-- The starts agree pairwise for the observer, and their runs show few enough assignments by T. The report has
-- their number, the greatest number of relevant mitigations that ended by T in one of them, the number of runs that
-- have halted by T, and the measures of the sequences seen.
pub record IsReport {E : Type 0} (v : Env E) (serves : Order → E → Type 0) (p : LabelledProgram) (o t : ℕ) (ss : List (Start E)) (r : CutReport) : Type 0 where
  pub agree : Pairwise (AgreeFor v serves p o) ss
  pub few : shown_by_all v p o t ss ≤ 16777216
  pub runs : r.runs ≡ length ss
  pub ended : r.ended ≡ most_ended v (lowered p).instrs (relevant_for p o) t ss
  pub halted : r.halted ≡ halted_count v p t ss
  pub measures : IsMeasure p.program.order o t r.ended (map (sequence_from v p o t) ss) r.measures

-- some start does not agree with the first one; or all agree, and then the first run decides that shows too much
abbrev pub IsCutFault : {E : Type 0} → Env E → (Order → E → Type 0) → LabelledProgram → ℕ → ℕ → List (Start E) → CutFault → Type 0
IsCutFault v serves p o t ss (Disagree run what) = Disagrees v serves p o ss run what
IsCutFault v serves p o t ss (TooMuch count) =
    Pairwise (AgreeFor v serves p o) ss × IsFirstRefused v p o t false ss (IsTooMuch count)
IsCutFault v serves p o t ss Memory = Unit {0}

-- two reports have the same numbers and classes
pub record SameReport (r s : CutReport) : Type 0 where
  pub runs : r.runs ≡ s.runs
  pub ended : r.ended ≡ s.ended
  pub halted : r.halted ≡ s.halted
  pub measures : SameMeasures r.measures s.measures

-- every audit has one answer
abbrev pub AnswersOnceAll : {E : Type 0} → Env E → (Order → E → Type 0) → Type 0
AnswersOnceAll {E} v serves =
    (p : LabelledProgram) (o t : ℕ) (ss : List (Start E)) → HasOneAnswer (IsReport v serves p o t ss) SameReport (IsCutFault v serves p o t ss) Memory

-- the fault that a part's fault becomes
abbrev pub fault_of_disagreement : Disagreement → CutFault
fault_of_disagreement (Differs run what) = Disagree run what
fault_of_disagreement NoRoom = Memory

-- runs that need not halt are never refused for it
abbrev pub MayCut : SurveyFault → Type 0
MayCut (IsUnfinished run cycle) = ⊥
MayCut (IsTooMuch count) = Unit {0}
MayCut NoMemory = Unit {0}

abbrev pub fault_of_survey : SurveyFault → CutFault
fault_of_survey (IsUnfinished run cycle) = Memory
fault_of_survey (IsTooMuch count) = TooMuch count
fault_of_survey NoMemory = Memory

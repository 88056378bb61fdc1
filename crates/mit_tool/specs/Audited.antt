-- What audits of the runs of a program stop with, and what they and a black box tell.
use Rattle.std.specs.Prelude.{◌≡◌, ℕ, List, ◌++◌, Option, Some, None}
use Rattle.std.specs.List.{AllZip}
use Rattle.label_lattice.specs.declared.label.Label.{Label}
use Rattle.timing_types.specs.Labelled.{LabelledProgram}
use Rattle.start_file.specs.Starts.{StartValue}
use Rattle.leak_audit.specs.declared.what.What.{What}
use Rattle.cut_audit.specs.declared.report.CutFault.TheVariants as cut
use Rattle.black_box.specs.Outcomes.{Outcome, IsOutcome}
use Rattle.tool_words.specs.declared.words.EnvName.{EnvName}
use Rattle.tool_stages.specs.declared.envs.Environment.TheVariants.{Named}
use Rattle.tool_texts.specs.declared.status.Status.{Status}
use Rattle.tool_texts.specs.declared.status.Status.TheVariants as status
use Rattle.tool_texts.specs.Reports.{audit_lines, cut_lines, disagree_line, events_line, box_lines}
use Rattle.tool_stages.specs.Stages.{Then}
use Rattle.tool_stages.specs.Envs.{ReportsIn, CutReportsIn, CutFaultsIn}
use Rattle.audit_stage.specs.Audited.{AuditStops}

-- ---- the runs of a program, for an observer, in a named environment, up to T

-- the lines of the report stand after a text
abbrev pub HasAudited : EnvName → ℕ → LabelledProgram → Option Label → List StartValue → List ℕ → Status → List ℕ → Type 0
HasAudited e t q None ss before = λ s x. ⊥
HasAudited e t q (Some l) ss before =
    Then (AuditStops (Named e) t q l ss) (ReportsIn (Named e) q l.number t ss) (λ r s x.
    (s ≡ status.Done) × (x ≡ before ++ audit_lines q.program.order l t r))

-- ---- the same where runs may not have halted

abbrev pub CutStops : EnvName → ℕ → LabelledProgram → Label → List StartValue → Status → List ℕ → Type 0
CutStops e t q l ss status.Disagree x =
    (run : ℕ) × (what : What) × CutFaultsIn (Named e) q l.number t ss (cut.Disagree run what) × (x ≡ disagree_line q.program run what)
CutStops e t q l ss status.TooLong x = (count : ℕ) × CutFaultsIn (Named e) q l.number t ss (cut.TooMuch count) × (x ≡ events_line count)
CutStops e t q l ss _ x = ⊥

abbrev pub HasCut : EnvName → ℕ → LabelledProgram → Option Label → List StartValue → Status → List ℕ → Type 0
HasCut e t q None ss = λ s x. ⊥
HasCut e t q (Some l) ss =
    Then (CutStops e t q l ss) (CutReportsIn (Named e) q l.number t ss) (λ r s x.
    (s ≡ status.Done) × (x ≡ cut_lines q.program.order l t r))

-- ---- a black box

-- what is released by the schedule
abbrev pub HasReleased : ℕ → ℕ → List (List ℕ) → Status → List ℕ → Type 0
HasReleased first t runs s x =
    (s ≡ status.Done) × (outcomes : List Outcome) × AllZip (IsOutcome first t) runs outcomes
    × (x ≡ box_lines first t runs outcomes)

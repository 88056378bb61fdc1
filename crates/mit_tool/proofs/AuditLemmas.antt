-- What audits tell, and what stops them.
use Rattle.std.proofs.Common.{◌≡◌, ℕ, List, ◌++◌, Some, inl, inr, refl, subst}
use Rattle.label_lattice.specs.declared.label.Label.{Label}
use Rattle.timing_types.specs.Labelled.{LabelledProgram}
use Rattle.start_file.specs.Starts.{StartValue}
use Rattle.leak_audit.specs.declared.report.AuditReport.{AuditReport}
use Rattle.cut_audit.specs.declared.report.CutReport.{CutReport}
use Rattle.tool_words.specs.declared.words.EnvName.{EnvName}
use Rattle.tool_stages.specs.declared.envs.Environment.TheVariants.{Named}
use Rattle.tool_texts.specs.declared.status.Status.{Status}
use Rattle.tool_texts.specs.declared.status.Status.TheVariants as status
use Rattle.tool_texts.specs.declared.stop.Stop.{Stop}
use Rattle.tool_texts.specs.Ends.{IsStop, status_of, stop_text}
use Rattle.tool_texts.specs.Reports.{audit_lines, cut_lines}
use Rattle.tool_stages.specs.Envs.{ReportsIn, CutReportsIn}
use Rattle.audit_stage.specs.Audited.{AuditStops}
use Rattle.mit_tool.specs.Audited.{HasAudited, CutStops, HasCut}
use Rattle.tool_texts.proofs.EndLemmas.{broke_map}

pub report_tells : (e : EnvName) (t : ℕ) (q : LabelledProgram) (l : Label) (ss : List StartValue) (before : List ℕ) (r : AuditReport) (x : List ℕ)
    → ReportsIn (Named e) q l.number t ss r → x ≡ before ++ audit_lines q.program.order l t r → HasAudited e t q (Some l) ss before status.Done x
report_tells e t q l ss before r x h is = inr (r, h, (refl, is))

pub audit_stop_stops : (e : EnvName) (t : ℕ) (q : LabelledProgram) (l : Label) (ss : List StartValue) (before : List ℕ) (s : Stop)
    → IsStop (AuditStops (Named e) t q l ss) s → IsStop (HasAudited e t q (Some l) ss before) s
audit_stop_stops e t q l ss before s h = broke_map (AuditStops (Named e) t q l ss) (HasAudited e t q (Some l) ss before) (status_of s) (stop_text s)
    (λ k. inl k) h

-- the text that stands before is known by another name
pub audited_after : (e : EnvName) (t : ℕ) (q : LabelledProgram) (l : Label) (ss : List StartValue) (text before : List ℕ) (s : Status) (x : List ℕ)
    → text ≡ before → HasAudited e t q (Some l) ss text s x → HasAudited e t q (Some l) ss before s x
audited_after e t q l ss text before s x is h = subst (λ (z : List ℕ). HasAudited e t q (Some l) ss z s x) is h

pub audited_stop_after : (e : EnvName) (t : ℕ) (q : LabelledProgram) (l : Label) (ss : List StartValue) (text before : List ℕ) (s : Stop)
    → text ≡ before → IsStop (HasAudited e t q (Some l) ss text) s → IsStop (HasAudited e t q (Some l) ss before) s
audited_stop_after e t q l ss text before s is h = subst (λ (z : List ℕ). IsStop (HasAudited e t q (Some l) ss z) s) is h

-- ---- runs that may not have halted

pub cut_tells : (e : EnvName) (t : ℕ) (q : LabelledProgram) (l : Label) (ss : List StartValue) (r : CutReport) (x : List ℕ)
    → CutReportsIn (Named e) q l.number t ss r → x ≡ cut_lines q.program.order l t r → HasCut e t q (Some l) ss status.Done x
cut_tells e t q l ss r x h is = inr (r, h, (refl, is))

pub cut_stop_stops : (e : EnvName) (t : ℕ) (q : LabelledProgram) (l : Label) (ss : List StartValue) (s : Stop)
    → IsStop (CutStops e t q l ss) s → IsStop (HasCut e t q (Some l) ss) s
cut_stop_stops e t q l ss s h = broke_map (CutStops e t q l ss) (HasCut e t q (Some l) ss) (status_of s) (stop_text s) (λ k. inl k) h

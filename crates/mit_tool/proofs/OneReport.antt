-- One answer at most: what audits tell, and what they stop with.
use Rattle.std.proofs.Common.{◌≡◌, ◌≢◌, ℕ, List, [], ◌++◌, Option, Some, None, inl, inr, refl, sym, ap, ◌∙◌, codes}
use Rattle.std.specs.List.{AllZip}
use Rattle.label_lattice.specs.declared.label.Label.{Label}
use Rattle.label_lattice.specs.Order.{Order}
use Rattle.mit_syntax.specs.Program.{Syntax}
use Rattle.timing_types.specs.Labelled.{LabelledProgram}
use Rattle.history_bound.specs.Over.{AnyHistory, history_made}
use Rattle.start_file.specs.Starts.{StartValue}
use Rattle.leak_audit.specs.Agreement.{starts_of}
use Rattle.cut_audit.specs.declared.report.CutReport.{CutReport}
use Rattle.cut_audit.specs.declared.report.CutFault.{CutFault}
use Rattle.cut_audit.specs.declared.report.CutFault.TheVariants as cut_fault
use Rattle.cut_audit.specs.Report.{SameReport as SameCut}
use Rattle.cut_audit.proofs.Once as cut
use Rattle.black_box.specs.Outcomes.{Outcome, IsOutcome}
use Rattle.tool_words.specs.declared.words.EnvName.{EnvName}
use Rattle.tool_stages.specs.declared.envs.Environment.TheVariants.{Named}
use Rattle.tool_texts.specs.declared.status.Status.{Status}
use Rattle.tool_texts.specs.declared.status.Status.TheVariants as status
use Rattle.tool_texts.specs.Texts.{number_line}
use Rattle.tool_texts.specs.Reports.{cut_lines, disagree_line, events_line, box_lines}
use Rattle.tool_stages.specs.Envs.{environment, CutReportsIn, CutFaultsIn}
use Rattle.audit_stage.proofs.Once.{same_report, not_fault, same_head, same_tail, two_parts, same_lines, audit_stops, one_audit_stop}
use Rattle.mit_tool.specs.Audited.{HasAudited, CutStops, HasCut, HasReleased}
use Rattle.tool_stages.proofs.OneLemmas.{Same}

-- ---- reports and faults in a named environment

same_cut : (e : EnvName) (q : LabelledProgram) (o t : ℕ) (ss : List StartValue) (r s : CutReport) → CutReportsIn (Named e) q o t ss r
    → CutReportsIn (Named e) q o t ss s → SameCut r s
same_cut e q o t ss r s h k = cut.same_report (environment (Named e) q.program.order) AnyHistory q o t (starts_of history_made q.program.order ss) r s h k

same_cut_fault : (e : EnvName) (q : LabelledProgram) (o t : ℕ) (ss : List StartValue) (f g : CutFault) → CutFaultsIn (Named e) q o t ss f
    → CutFaultsIn (Named e) q o t ss g
    → f ≢ cut_fault.Memory → g ≢ cut_fault.Memory → f ≡ g
same_cut_fault e q o t ss f g h k n m =
    cut.same_fault (environment (Named e) q.program.order) AnyHistory q o t (starts_of history_made q.program.order ss) f g h k n m

not_cut_fault : (e : EnvName) (q : LabelledProgram) (o t : ℕ) (ss : List StartValue) (r : CutReport) (f : CutFault) → CutReportsIn (Named e) q o t ss r
    → CutFaultsIn (Named e) q o t ss f → f ≡ cut_fault.Memory
not_cut_fault e q o t ss r f h k = cut.not_fault (environment (Named e) q.program.order) AnyHistory q o t (starts_of history_made q.program.order ss) r f h k

-- ---- their lines

same_cut_lines : (o : Order) (l : Label) (t : ℕ) (r s : CutReport) → SameCut r s → cut_lines o l t r ≡ cut_lines o l t s
same_cut_lines o l t r s h =
    two_parts _ _ _ _ (same_head o l t r.runs r.measures.levels s.runs s.measures.levels h.runs h.measures.levels)
    (two_parts _ _ _ _ (ap (number_line (codes "ended ")) h.ended)
    (two_parts _ _ _ _ (ap (number_line (codes "halted ")) h.halted) (same_tail r.measures s.measures h.measures)))

-- ---- audits

pub one_audit : (e : EnvName) (t : ℕ) (q : LabelledProgram) (o : Option Label) (ss : List StartValue) (before : List ℕ) (s u : Status) (x y : List ℕ)
    → HasAudited e t q o ss before s x → HasAudited e t q o ss before u y → Same s u x y
one_audit e t q None ss before s u x y h k = absurd h
one_audit e t q (Some l) ss before s u x y (inl h) (inl k) = one_audit_stop (Named e) t q l ss s u x y h k
one_audit e t q (Some l) ss before s u x y (inl h) (inr k) = let a = audit_stops (Named e) t q l ss s x h in
    absurd (a.none (not_fault (Named e) q l.number t ss k.0 a.fault k.1 a.is))
one_audit e t q (Some l) ss before s u x y (inr h) (inl k) = let a = audit_stops (Named e) t q l ss u y k in
    absurd (a.none (not_fault (Named e) q l.number t ss h.0 a.fault h.1 a.is))
one_audit e t q (Some l) ss before s u x y (inr h) (inr k) =
    let lines = same_lines q.program.order l t h.0 k.0 (same_report (Named e) q l.number t ss h.0 k.0 h.1 k.1) in
    (h.2.0 ∙ sym k.2.0, h.2.1 ∙ ap (λ (z : List ℕ). before ++ z) lines ∙ sym k.2.1)

-- ---- audits of runs that may not have halted

abbrev pub cut_status : CutFault → Status
cut_status (cut_fault.Disagree run what) = status.Disagree
cut_status (cut_fault.TooMuch count) = status.TooLong
cut_status cut_fault.Memory = status.Memory

abbrev pub cut_line : Syntax → CutFault → List ℕ
cut_line p (cut_fault.Disagree run what) = disagree_line p run what
cut_line p (cut_fault.TooMuch count) = events_line count
cut_line p cut_fault.Memory = []

pub record HasCutFault (e : EnvName) (t : ℕ) (q : LabelledProgram) (l : Label) (ss : List StartValue) (s : Status) (x : List ℕ) : Type 0 where
  pub fault : CutFault
  pub none : fault ≢ cut_fault.Memory
  pub is : CutFaultsIn (Named e) q l.number t ss fault
  pub told : s ≡ cut_status fault
  pub line : x ≡ cut_line q.program fault

pub cut_stops : (e : EnvName) (t : ℕ) (q : LabelledProgram) (l : Label) (ss : List StartValue) (s : Status) (x : List ℕ)
    → CutStops e t q l ss s x → HasCutFault e t q l ss s x
cut_stops e t q l ss status.Done x h = absurd h
cut_stops e t q l ss status.Refused x h = absurd h
cut_stops e t q l ss status.Syntax x h = absurd h
cut_stops e t q l ss status.Starts x h = absurd h
cut_stops e t q l ss status.Usage x h = absurd h
cut_stops e t q l ss status.ReadFault x h = absurd h
cut_stops e t q l ss status.WriteFault x h = absurd h
cut_stops e t q l ss status.TooLong x h = record { fault = cut_fault.TooMuch h.0; none = λ e. cc; is = h.1; told = refl; line = h.2 }
cut_stops e t q l ss status.Budget x h = absurd h
cut_stops e t q l ss status.Disagree x h = record { fault = cut_fault.Disagree h.0 h.1; none = λ e. cc; is = h.2; told = refl; line = h.3 }
cut_stops e t q l ss status.Unfinished x h = absurd h
cut_stops e t q l ss status.Memory x h = absurd h
cut_stops e t q l ss status.Rejected x h = absurd h

one_cut_stop : (e : EnvName) (t : ℕ) (q : LabelledProgram) (l : Label) (ss : List StartValue) (s u : Status) (x y : List ℕ) → CutStops e t q l ss s x
    → CutStops e t q l ss u y → Same s u x y
one_cut_stop e t q l ss s u x y h k =
    let a = cut_stops e t q l ss s x h in
    let b = cut_stops e t q l ss u y k in
    let same : a.fault ≡ b.fault = same_cut_fault e q l.number t ss a.fault b.fault a.is b.is a.none b.none in
    (a.told ∙ ap cut_status same ∙ sym b.told, a.line ∙ ap (cut_line q.program) same ∙ sym b.line)

pub one_cut : (e : EnvName) (t : ℕ) (q : LabelledProgram) (o : Option Label) (ss : List StartValue) (s u : Status) (x y : List ℕ) → HasCut e t q o ss s x
    → HasCut e t q o ss u y → Same s u x y
one_cut e t q None ss s u x y h k = absurd h
one_cut e t q (Some l) ss s u x y (inl h) (inl k) = one_cut_stop e t q l ss s u x y h k
one_cut e t q (Some l) ss s u x y (inl h) (inr k) = let a = cut_stops e t q l ss s x h in absurd (a.none (not_cut_fault e q l.number t ss k.0 a.fault k.1 a.is))
one_cut e t q (Some l) ss s u x y (inr h) (inl k) = let a = cut_stops e t q l ss u y k in absurd (a.none (not_cut_fault e q l.number t ss h.0 a.fault h.1 a.is))
one_cut e t q (Some l) ss s u x y (inr h) (inr k) =
    let lines = same_cut_lines q.program.order l t h.0 k.0 (same_cut e q l.number t ss h.0 k.0 h.1 k.1) in
    (h.2.0 ∙ sym k.2.0, h.2.1 ∙ lines ∙ sym k.2.1)

-- ---- a file of ready cycles

-- runs have one list of outcomes
abbrev pub OneOutcomes : Type 0
OneOutcomes = (q t : ℕ) (runs : List (List ℕ)) (outcomes others : List Outcome) → AllZip (IsOutcome q t) runs outcomes
    → AllZip (IsOutcome q t) runs others → outcomes ≡ others

pub one_release : (one : OneOutcomes) (first t : ℕ) (runs : List (List ℕ)) (s u : Status) (x y : List ℕ) → HasReleased first t runs s x
    → HasReleased first t runs u y → Same s u x y
one_release one first t runs s u x y h k =
    let same : h.1 ≡ k.1 = one first t runs h.1 k.1 h.2 k.2 in
    (h.0 ∙ sym k.0, h.3 ∙ ap (box_lines first t runs) same ∙ sym k.3)

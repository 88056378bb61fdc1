-- One answer at most, and when there is a report.
use Rattle.std.proofs.Common.{◌≡◌, ◌≢◌, ℕ, List, [], ◌++◌, refl, sym, ap, ◌∙◌, codes}
use Rattle.label_lattice.specs.declared.label.Label.{Label}
use Rattle.label_lattice.specs.Order.{Order}
use Rattle.mit_syntax.specs.Program.{Syntax}
use Rattle.timing_types.specs.Labelled.{LabelledProgram}
use Rattle.history_bound.specs.Over.{AnyHistory, history_made}
use Rattle.start_file.specs.Starts.{StartValue}
use Rattle.leak_audit.specs.Agreement.{starts_of}
use Rattle.leak_audit.specs.declared.report.AuditReport.{AuditReport}
use Rattle.leak_audit.specs.declared.report.AuditFault.{AuditFault}
use Rattle.leak_audit.specs.declared.report.AuditFault.TheVariants as audit_fault
use Rattle.leak_audit.specs.declared.measure.Measures.{Measures}
use Rattle.leak_audit.specs.Measured.{SameMeasures}
use Rattle.leak_audit.specs.Report.{SameReport}
use Rattle.leak_audit.proofs.Once as audit
use Rattle.leak_audit.proofs.Once.{no_audit_fault}
use Rattle.tool_stages.specs.declared.envs.Environment.{Environment}
use Rattle.tool_texts.specs.declared.status.Status.{Status}
use Rattle.tool_texts.specs.declared.status.Status.TheVariants as status
use Rattle.tool_texts.specs.Texts.{number_line}
use Rattle.tool_texts.specs.Reports.{bound_line, class_lines, head_lines, tail_lines, audit_lines, disagree_line, unfinished_line, events_line}
use Rattle.tool_stages.specs.Envs.{environment, ReportsIn, AuditFaultsIn}
use Rattle.tool_stages.specs.Goes.{CanBeAudited}
use Rattle.tool_stages.proofs.OneLemmas.{Same}
use Rattle.tool_stages.proofs.AgreeLemmas.{all_halt}
use Rattle.audit_stage.specs.Audited.{AuditStops}

pub same_report : (e : Environment) (q : LabelledProgram) (o t : ℕ) (ss : List StartValue) (r s : AuditReport) → ReportsIn e q o t ss r
    → ReportsIn e q o t ss s → SameReport r s
same_report e q o t ss r s h k = audit.same_report (environment e q.program.order) AnyHistory q o t (starts_of history_made q.program.order ss) r s h k

same_fault : (e : Environment) (q : LabelledProgram) (o t : ℕ) (ss : List StartValue) (f g : AuditFault) → AuditFaultsIn e q o t ss f
    → AuditFaultsIn e q o t ss g
    → f ≢ audit_fault.Memory → g ≢ audit_fault.Memory → f ≡ g
same_fault e q o t ss f g h k n m =
    audit.same_fault (environment e q.program.order) AnyHistory q o t (starts_of history_made q.program.order ss) f g h k n m

pub not_fault : (e : Environment) (q : LabelledProgram) (o t : ℕ) (ss : List StartValue) (r : AuditReport) (f : AuditFault) → ReportsIn e q o t ss r
    → AuditFaultsIn e q o t ss f → f ≡ audit_fault.Memory
not_fault e q o t ss r f h k = audit.not_fault (environment e q.program.order) AnyHistory q o t (starts_of history_made q.program.order ss) r f h k

pub same_head : (o : Order) (l : Label) (t runs levels runs' levels' : ℕ) → runs ≡ runs' → levels ≡ levels'
    → head_lines o l t runs levels ≡ head_lines o l t runs' levels'
same_head o l t runs levels runs' levels' e f = ap (λ z. head_lines o l t z levels) e ∙ ap (λ z. head_lines o l t runs' z) f

pub same_tail : (m n : Measures) → SameMeasures m n → tail_lines m ≡ tail_lines n
same_tail m n h =
    ap (λ z. number_line (codes "distinct ") z ++ (bound_line m.base m.exponent ++ class_lines 1 m.classes.items)) h.distinct
    ∙ ap (λ z. number_line (codes "distinct ") n.distinct ++ (bound_line z m.exponent ++ class_lines 1 m.classes.items)) h.base
    ∙ ap (λ z. number_line (codes "distinct ") n.distinct ++ (bound_line n.base z ++ class_lines 1 m.classes.items)) h.exponent
    ∙ ap (λ z. number_line (codes "distinct ") n.distinct ++ (bound_line n.base n.exponent ++ class_lines 1 z)) h.classes

pub two_parts : (a b c d : List ℕ) → a ≡ c → b ≡ d → a ++ b ≡ c ++ d
two_parts a b c d e f = ap (λ z. z ++ b) e ∙ ap (λ z. c ++ z) f

pub same_lines : (o : Order) (l : Label) (t : ℕ) (r s : AuditReport) → SameReport r s → audit_lines o l t r ≡ audit_lines o l t s
same_lines o l t r s h =
    two_parts _ _ _ _ (same_head o l t r.runs r.measures.levels s.runs s.measures.levels h.runs h.measures.levels)
    (two_parts _ _ _ _ (ap (number_line (codes "mitigations ")) h.mitigations) (same_tail r.measures s.measures h.measures))

abbrev pub fault_status : AuditFault → Status
fault_status (audit_fault.Disagree run what) = status.Disagree
fault_status (audit_fault.Unfinished run cycle) = status.Unfinished
fault_status (audit_fault.TooMuch count) = status.TooLong
fault_status audit_fault.Memory = status.Memory

abbrev pub fault_line : Syntax → AuditFault → List ℕ
fault_line p (audit_fault.Disagree run what) = disagree_line p run what
fault_line p (audit_fault.Unfinished run cycle) = unfinished_line run cycle
fault_line p (audit_fault.TooMuch count) = events_line count
fault_line p audit_fault.Memory = []

-- a stop of an audit is a fault of it
pub record HasFault (e : Environment) (t : ℕ) (q : LabelledProgram) (l : Label) (ss : List StartValue) (s : Status) (x : List ℕ) : Type 0 where
  pub fault : AuditFault
  pub none : fault ≢ audit_fault.Memory
  pub is : AuditFaultsIn e q l.number t ss fault
  pub told : s ≡ fault_status fault
  pub line : x ≡ fault_line q.program fault

pub audit_stops : (e : Environment) (t : ℕ) (q : LabelledProgram) (l : Label) (ss : List StartValue) (s : Status) (x : List ℕ)
    → AuditStops e t q l ss s x → HasFault e t q l ss s x
audit_stops e t q l ss status.TooLong x h = record { fault = audit_fault.TooMuch h.0; none = λ e. cc; is = h.1; told = refl; line = h.2 }
audit_stops e t q l ss status.Disagree x h = record { fault = audit_fault.Disagree h.0 h.1; none = λ e. cc; is = h.2; told = refl; line = h.3 }
audit_stops e t q l ss status.Unfinished x h = record { fault = audit_fault.Unfinished h.0 h.1; none = λ e. cc; is = h.2; told = refl; line = h.3 }
audit_stops e t q l ss _ x h = absurd h

pub one_audit_stop : (e : Environment) (t : ℕ) (q : LabelledProgram) (l : Label) (ss : List StartValue) (s u : Status) (x y : List ℕ)
    → AuditStops e t q l ss s x
    → AuditStops e t q l ss u y → Same s u x y
one_audit_stop e t q l ss s u x y h k =
    let a = audit_stops e t q l ss s x h in
    let b = audit_stops e t q l ss u y k in
    let same : a.fault ≡ b.fault = same_fault e q l.number t ss a.fault b.fault a.is b.is a.none b.none in
    (a.told ∙ ap fault_status same ∙ sym b.told, a.line ∙ ap (fault_line q.program) same ∙ sym b.line)

halt_in : (e : Environment) (t : ℕ) (q : LabelledProgram) (o : Label) (ss : List StartValue) (f : AuditFault) → CanBeAudited e t q o.number ss
    → AuditFaultsIn e q o.number t ss f → f ≡ audit_fault.Memory
halt_in e t q o ss f k h = no_audit_fault (environment e q.program.order) AnyHistory q o.number t (starts_of history_made q.program.order ss) f k.cut.agree
    (all_halt (environment e q.program.order) history_made q t ss k.halt) k.cut.few h

pub audit_goes : (e : Environment) (t : ℕ) (q : LabelledProgram) (o : Label) (ss : List StartValue) (s : Status) (x : List ℕ) → CanBeAudited e t q o.number ss
    → AuditStops e t q o ss s x → ⊥
audit_goes e t q o ss s x k h = let stop = audit_stops e t q o ss s x h in stop.none (halt_in e t q o ss stop.fault k stop.is)

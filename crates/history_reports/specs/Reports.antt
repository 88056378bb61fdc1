-- What runs and audits tell in two environments.
use Rattle.std.specs.Prelude.{◌≡◌, ◌↔◌, ℕ, ◌<◌, List, All}
use Rattle.label_lattice.specs.Order.{Order}
use Rattle.timing_types.specs.Labelled.{LabelledProgram}
use Rattle.env_contract.specs.declared.place.Touch.{Touch}
use Rattle.env_contract.specs.Env.{Env}
use Rattle.label_code.specs.Shaped.{Code, IsShaped}
use Rattle.label_code.specs.Run.{Start, run_from}
use Rattle.code_lower.specs.Lowered.{lowered}
use Rattle.leak_bound.specs.Records.{Pairwise}
use Rattle.start_file.specs.Starts.{StartValue, IsFor}
use Rattle.cycle_machine.specs.Rest.{told_by}
use Rattle.leak_audit.specs.Agreement.{AgreeFor, start_of, starts_of}
use Rattle.leak_audit.specs.Surveyed.{shown_by_all}
use Rattle.leak_audit.specs.declared.report.AuditReport.{AuditReport}
use Rattle.leak_audit.specs.declared.report.AuditFault.{AuditFault}
use Rattle.leak_audit.specs.Report.{IsReport, IsAuditFault}
use Rattle.cut_audit.specs.declared.report.CutReport.{CutReport}
use Rattle.cut_audit.specs.declared.report.CutFault.{CutFault}
use Rattle.cut_audit.specs.Report.{IsReport as IsCutReport, IsCutFault}

-- The starts of two lists, of a program in two environments, agree alike and show alike, and audits of the one
-- have the reports and the faults of the other.
pub record AuditAlike {E F : Type 0} (v : Env E) (serves : Order → E → Type 0) (w : Env F) (serves' : Order → F → Type 0) (p : LabelledProgram) (o t : ℕ)
    (ss : List (Start E)) (rs : List (Start F)) : Type 0 where
  pub agree : Pairwise (AgreeFor v serves p o) ss ↔ Pairwise (AgreeFor w serves' p o) rs
  pub shown : shown_by_all v p o t ss ≡ shown_by_all w p o t rs
  pub report : (r : AuditReport) → IsReport v serves p o t ss r ↔ IsReport w serves' p o t rs r
  pub fault : (f : AuditFault) → IsAuditFault v serves p o t ss f ↔ IsAuditFault w serves' p o t rs f
  pub cut_report : (r : CutReport) → IsCutReport v serves p o t ss r ↔ IsCutReport w serves' p o t rs r
  pub cut_fault : (f : CutFault) → IsCutFault v serves p o t ss f ↔ IsCutFault w serves' p o t rs f

module _ {E F : Type 0} (v : Env E) (made : Order → List Touch → E) (w : Order → Env F) (made' : Order → List Touch → F) where
  -- Of any code, from any start for its lattice and to any T, the runs in both environments tell the same.
  abbrev pub RunsTellAlike : Type 0
  RunsTellAlike =
      (c : Code) → IsShaped c → (s : StartValue) → All (λ x. x.label.number < c.order.size) s.touches → (t : ℕ) →
      told_by (run_from v c.instrs t (start_of made c.order s)) ≡ told_by (run_from (w c.order) c.instrs t (start_of made' c.order s))

  -- Of any program with its image, for any observer, any T and any starts that are for the program, audits in both
  -- environments tell the same.
  abbrev pub AuditsTellAlike : (Order → E → Type 0) → (Order → F → Type 0) → Type 0
  AuditsTellAlike serves serves' =
      (p : LabelledProgram) → IsShaped (lowered p) → (o t : ℕ) → o < p.program.order.size → (vs : List StartValue) → All (IsFor p.program) vs →
      AuditAlike v serves (w p.program.order) serves' p o t (starts_of made p.program.order vs) (starts_of made' p.program.order vs)

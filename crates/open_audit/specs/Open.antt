-- What an audit finds of a program with labels, whether or not they type it.
use Rattle.std.specs.Prelude.{◌≡◌, ℕ, List}
use Rattle.label_lattice.specs.Order.{Order}
use Rattle.timing_types.specs.Labelled.{LabelledProgram}
use Rattle.env_contract.specs.Env.{Env}
use Rattle.label_code.specs.Run.{Start}
use Rattle.leak_audit.specs.declared.report.AuditReport.{AuditReport}
use Rattle.leak_audit.specs.Report.{IsReport}

-- There is a report of the runs from these starts, and these are its classes. Its bound is one where the labels type the
-- program, and nothing is said of it here.
pub record HasReport {E : Type 0} (v : Env E) (serves : Order → E → Type 0) (p : LabelledProgram) (o t : ℕ) (ss : List (Start E))
    (classes : List ℕ) : Type 0 where
  pub report : AuditReport
  pub is : IsReport v serves p o t ss report
  pub classes_are : report.measures.classes.items ≡ classes

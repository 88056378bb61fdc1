-- What an audit finds of a refused program, in an environment.
use Rattle.std.proofs.Common.{◌≡◌, ℕ, List, length, Vec, Global, refl, sym, ap, ◌∙◌}
use Rattle.std.specs.Prelude.{Result, Ok, Err, IfOk, IfErr}
use Rattle.std.proofs.lemmas.List.{length-map}
use Rattle.label_lattice.specs.declared.label.Label.{Label}
use Rattle.label_lattice.specs.Order.{Order}
use Rattle.env_contract.specs.Env.{Env}
use Rattle.env_contract.specs.declared.place.Touch.{Touch}
use Rattle.timing_types.specs.Labelled.{LabelledProgram}
use Rattle.label_code.specs.Shaped.{Code, IsShaped}
use Rattle.start_file.specs.Starts.{StartValue}
use Rattle.part_tlb.specs.declared.bank.Hardware.{Hardware}
use Rattle.part_tlb.specs.Machine.{hardware_by_history}
use Rattle.history_bound.specs.Over.{AnyHistory, history_made}
use Rattle.history_reports.specs.Reports.{AuditsTellAlike}
use Rattle.leak_bound.specs.Records.{classes_of, distinct, place_in}
use Rattle.leak_audit.specs.Agreement.{start_of, starts_of}
use Rattle.leak_audit.specs.Report.{IsAuditFault}
use Rattle.leak_audit.specs.Sequences.{same_sequence}
use Rattle.leak_audit.specs.declared.report.AuditFault.{AuditFault}
use Rattle.open_audit.specs.Open.{HasReport}
use Rattle.tool_stages.specs.declared.envs.Environment.{Environment}
use Rattle.tool_stages.specs.Begins.{CanAudit}
use Rattle.tool_stages.specs.Envs.{hardware_of, AuditFaultsIn}
use Rattle.tool_stages.proofs.EnvLemmas.{named_report, named_fault}
use Rattle.lab_leak.specs.Answer.{sequences_in}
use Rattle.lab_leak.specs.Views.{HasClassesIn}

module _ {E : Type 0} (v : Env E) (made : Order → List Touch → E) (e : Environment) (hw : Hardware) (is : hardware_of e ≡ hw) (q : LabelledProgram)
    (code : Code) (shaped : IsShaped code) (serves : Order → E → Type 0)
    (alike : AuditsTellAlike v made (hardware_by_history hw) history_made serves AnyHistory) (l : Label) (t : ℕ) (ss : List StartValue)
    (can : CanAudit q l code ss) where
  pub open_report : (r : Result (Vec ℕ Global) AuditFault)
      → IfOk r (λ k. HasReport v serves q l.number t (starts_of made q.program.order ss) k.items) → IfOk r (λ k. HasClassesIn e q l.number t ss k.items)
  open_report (Ok k) h = record {
    report = h.report;
    is = named_report v made e hw is q code shaped serves alike l t ss ss refl can (Ok h.report) h.is;
    classes_are = h.classes_are;
  }
  open_report (Err f) h = tt

  pub open_fault : (r : Result (Vec ℕ Global) AuditFault) → IfErr r (IsAuditFault v serves q l.number t (starts_of made q.program.order ss))
      → IfErr r (AuditFaultsIn e q l.number t ss)
  open_fault (Ok k) h = tt
  open_fault (Err f) h = named_fault v made e hw is q code shaped serves alike l t ss ss refl can (Err f) h

module _ (e : Environment) (q : LabelledProgram) (o t : ℕ) (ss : List StartValue) (ks : List ℕ) (h : HasClassesIn e q o t ss ks) where
  -- they are the classes of what the observer sees
  pub classes_seen : ks ≡ classes_of same_sequence (sequences_in e t q o ss)
  classes_seen = sym h.classes_are ∙ h.is.measures.classes

  -- one for each start
  pub as_many_classes : length ks ≡ length ss
  as_many_classes =
      let zs = sequences_in e t q o ss in
      ap length classes_seen ∙ length-map zs (place_in same_sequence (distinct same_sequence zs))
      ∙ length-map (starts_of history_made q.program.order ss) _ ∙ length-map ss (start_of history_made q.program.order)

  pub runs_counted : h.report.runs ≡ length ss
  runs_counted = h.is.runs ∙ length-map ss (start_of history_made q.program.order)

-- What is told in an environment is told over histories.
use Rattle.std.proofs.Common.{◌≡◌, ℕ, List, Result, Ok, Err, IfOk, IfErr, refl, sym, subst}
use Rattle.std.specs.Prelude.{All}
use Rattle.label_lattice.specs.declared.label.Label.{Label}
use Rattle.label_lattice.specs.Order.{Order}
use Rattle.env_contract.specs.Env.{Env}
use Rattle.env_contract.specs.declared.place.Touch.{Touch}
use Rattle.label_code.specs.Run.{run_from}
use Rattle.label_code.specs.Shaped.{Code, IsShaped}
use Rattle.code_lower.specs.Lowered.{lowered}
use Rattle.cycle_machine.specs.Rest.{Told, told_by}
use Rattle.leak_audit.specs.Agreement.{start_of, starts_of}
use Rattle.leak_audit.specs.Report.{IsReport, IsAuditFault}
use Rattle.cut_audit.specs.Report.{IsReport as IsCutReport, IsCutFault}
use Rattle.history_bound.specs.Over.{AnyHistory, history_made}
use Rattle.history_reports.specs.Reports.{AuditAlike, RunsTellAlike, AuditsTellAlike}
use Rattle.timing_types.specs.Labelled.{LabelledProgram}
use Rattle.start_file.specs.Starts.{StartValue, IsFor}
use Rattle.leak_audit.specs.declared.report.AuditReport.{AuditReport}
use Rattle.leak_audit.specs.declared.report.AuditFault.{AuditFault}
use Rattle.cut_audit.specs.declared.report.CutReport.{CutReport}
use Rattle.cut_audit.specs.declared.report.CutFault.{CutFault}
use Rattle.part_tlb.specs.declared.bank.Hardware.{Hardware}
use Rattle.part_tlb.specs.Machine.{hardware_by_history}
use Rattle.tool_words.specs.declared.words.EnvName.{EnvName}
use Rattle.tool_words.specs.declared.words.EnvName.TheVariants.{Flat, Part, Part2}
use Rattle.tool_stages.specs.declared.envs.Environment.{Environment}
use Rattle.tool_stages.specs.declared.envs.Environment.TheVariants.{Named}
use Rattle.tool_stages.specs.Envs.{IsPartitioned, hardware_of, environment, told_in, ReportsIn, AuditFaultsIn, CutReportsIn, CutFaultsIn}
use Rattle.tool_stages.specs.Begins.{CanAudit}

-- a machine that has a name has partitions
pub named_partitioned : (e : EnvName) → IsPartitioned (Named e)
named_partitioned Flat = refl
named_partitioned Part = refl
named_partitioned Part2 = refl

module _ {E : Type 0} (v : Env E) (made : Order → List Touch → E) (e : Environment) (hw : Hardware) (is : hardware_of e ≡ hw) (q : LabelledProgram)
    (code : Code)
    (shaped : IsShaped code) where
  -- a run
  pub named_told : RunsTellAlike v made (hardware_by_history hw) history_made → code ≡ lowered q → (s : StartValue) → IsFor q.program s → (t : ℕ)
      → told_by (run_from v code.instrs t (start_of made q.program.order s)) ≡ told_in e q.program.order code s t
  named_told alike image s fits t =
      subst (λ (z : Hardware). told_by (run_from v code.instrs t (start_of made q.program.order s)) ≡ told_on z code) (sym is)
      (subst (λ (z : Code). IsShaped z → told_by (run_from v z.instrs t (start_of made q.program.order s)) ≡ told_on hw z) (sym image)
      (λ shaped. alike (lowered q) shaped s fits.touches t) shaped)
    where
      told_on : Hardware → Code → Told
      told_on z c = told_by (run_from (hardware_by_history z q.program.order) c.instrs t (start_of history_made q.program.order s))

  -- audits
  module _ (serves : Order → E → Type 0) (alike : AuditsTellAlike v made (hardware_by_history hw) history_made serves AnyHistory) (l : Label) (t : ℕ)
      (xs ss : List StartValue) (same : xs ≡ ss) (can : CanAudit q l code ss) where
    both : AuditAlike v serves (environment e q.program.order) AnyHistory q l.number t (starts_of made q.program.order xs)
        (starts_of history_made q.program.order ss)
    both =
        subst (λ (z : Hardware). AuditAlike v serves (hardware_by_history z q.program.order) AnyHistory q l.number t (starts_of made q.program.order xs)
        (starts_of history_made q.program.order ss)) (sym is)
        (subst (λ (zs : List StartValue). AuditAlike v serves (hardware_by_history hw q.program.order) AnyHistory q l.number t
        (starts_of made q.program.order xs)
        (starts_of history_made q.program.order zs)) same
        (alike q (subst IsShaped can.image shaped) l.number t can.observer xs (subst (All (IsFor q.program)) (sym same) can.starts)))

    pub named_report : (r : Result AuditReport AuditFault) → IfOk r (IsReport v serves q l.number t (starts_of made q.program.order xs))
        → IfOk r (ReportsIn e q l.number t ss)
    named_report (Ok r) h = (both.report r).0 h
    named_report (Err f) h = tt

    pub named_fault : (r : Result AuditReport AuditFault) → IfErr r (IsAuditFault v serves q l.number t (starts_of made q.program.order xs))
        → IfErr r (AuditFaultsIn e q l.number t ss)
    named_fault (Ok r) h = tt
    named_fault (Err f) h = (both.fault f).0 h

    pub named_cut : (r : Result CutReport CutFault) → IfOk r (IsCutReport v serves q l.number t (starts_of made q.program.order xs))
        → IfOk r (CutReportsIn e q l.number t ss)
    named_cut (Ok r) h = (both.cut_report r).0 h
    named_cut (Err f) h = tt

    pub named_cut_fault : (r : Result CutReport CutFault) → IfErr r (IsCutFault v serves q l.number t (starts_of made q.program.order xs))
        → IfErr r (CutFaultsIn e q l.number t ss)
    named_cut_fault (Ok r) h = tt
    named_cut_fault (Err f) h = (both.cut_fault f).0 h

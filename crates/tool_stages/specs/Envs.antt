-- The environments of runs, and runs in them.
use Rattle.std.specs.Prelude.{◌≡◌, ℕ, List}
use Rattle.env_contract.specs.Env.{Env}
use Rattle.label_lattice.specs.Order.{Order}
use Rattle.label_code.specs.Shaped.{Code}
use Rattle.label_code.specs.Run.{run_from}
use Rattle.start_file.specs.Starts.{StartValue}
use Rattle.cycle_machine.specs.Rest.{Told}
use Rattle.cycle_machine.specs.Rest.{told_by}
use Rattle.timing_types.specs.Labelled.{LabelledProgram}
use Rattle.leak_audit.specs.Agreement.{starts_of}
use Rattle.leak_audit.specs.declared.report.AuditReport.{AuditReport}
use Rattle.leak_audit.specs.declared.report.AuditFault.{AuditFault}
use Rattle.leak_audit.specs.Report.{IsReport, IsAuditFault}
use Rattle.cut_audit.specs.declared.report.CutReport.{CutReport}
use Rattle.cut_audit.specs.declared.report.CutFault.{CutFault}
use Rattle.cut_audit.specs.Report.{IsReport as IsCutReport, IsCutFault}
use Rattle.env_contract.specs.declared.place.Touch.{Touch}
use Rattle.part_tlb.specs.declared.bank.Hardware.{Hardware}
use Rattle.part_tlb.specs.declared.bank.Sharing.TheVariants.{Partitioned}
use Rattle.part_tlb.specs.Machine.{hardware_by_history}
use Rattle.part_tlb.specs.Named.{flat_machine, part_machine, part2_machine}
use Rattle.history_bound.specs.Over.{AnyHistory, history_made}
use Rattle.tool_words.specs.declared.words.EnvName.{EnvName}
use Rattle.tool_words.specs.declared.words.EnvName.TheVariants.{Flat, Part, Part2}
use Rattle.tool_stages.specs.declared.envs.Environment.{Environment}
use Rattle.tool_stages.specs.declared.envs.Environment.TheVariants.{Named, Described}

-- the machine that a name means
abbrev pub machine_of : EnvName → Hardware
machine_of Flat = flat_machine
machine_of Part = part_machine
machine_of Part2 = part2_machine

-- the machine of an environment, which a name means or a description tells
abbrev pub hardware_of : Environment → Hardware
hardware_of (Named e) = machine_of e
hardware_of (Described m) = m.hardware

-- each label has a partition of its own in each of its banks
abbrev pub IsPartitioned : Environment → Type 0
IsPartitioned e = (hardware_of e).sharing ≡ Partitioned

-- the environment: what an access costs after a history of touches
abbrev pub environment : Environment → Order → Env (List Touch)
environment e o = hardware_by_history (hardware_of e) o

-- what the run of an image from a start tells up to T
abbrev pub told_in : Environment → Order → Code → StartValue → ℕ → Told
told_in e o code s t = told_by (run_from (environment e o) code.instrs t (record { memory = s.memory; env = s.touches }))

-- what an audit up to T reports to an observer of the runs from starts, and why it may not
abbrev pub ReportsIn : Environment → LabelledProgram → ℕ → ℕ → List StartValue → AuditReport → Type 0
ReportsIn e q o t ss = IsReport (environment e q.program.order) AnyHistory q o t (starts_of history_made q.program.order ss)

abbrev pub AuditFaultsIn : Environment → LabelledProgram → ℕ → ℕ → List StartValue → AuditFault → Type 0
AuditFaultsIn e q o t ss = IsAuditFault (environment e q.program.order) AnyHistory q o t (starts_of history_made q.program.order ss)

-- the same of runs that may not have halted
abbrev pub CutReportsIn : Environment → LabelledProgram → ℕ → ℕ → List StartValue → CutReport → Type 0
CutReportsIn e q o t ss = IsCutReport (environment e q.program.order) AnyHistory q o t (starts_of history_made q.program.order ss)

abbrev pub CutFaultsIn : Environment → LabelledProgram → ℕ → ℕ → List StartValue → CutFault → Type 0
CutFaultsIn e q o t ss = IsCutFault (environment e q.program.order) AnyHistory q o t (starts_of history_made q.program.order ss)

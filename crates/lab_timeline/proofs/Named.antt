-- What is told of the mitigations of a run in an environment is told over histories.
use Rattle.std.proofs.Common.{◌≡◌, ℕ, List, sym, ap, subst}
use Rattle.label_lattice.specs.Order.{Order}
use Rattle.env_contract.specs.Env.{Env}
use Rattle.env_contract.specs.declared.place.Touch.{Touch}
use Rattle.label_code.specs.Shaped.{Code, IsShaped}
use Rattle.timing_types.specs.Labelled.{LabelledProgram}
use Rattle.code_lower.specs.Lowered.{lowered}
use Rattle.cycle_machine.specs.Rest.{Told}
use Rattle.start_file.specs.Starts.{StartValue, IsFor}
use Rattle.leak_audit.specs.Agreement.{start_of}
use Rattle.part_tlb.specs.declared.bank.Hardware.{Hardware}
use Rattle.part_tlb.specs.Machine.{hardware_by_history}
use Rattle.history_bound.specs.Over.{history_made}
use Rattle.history_reports.specs.Reports.{RunsTellAlike}
use Rattle.run_timeline.specs.declared.moment.Moment.{Moment}
use Rattle.run_timeline.specs.Timeline.{IsTimeline}
use Rattle.tool_stages.specs.declared.envs.Environment.{Environment}
use Rattle.tool_stages.specs.Envs.{hardware_of}
use Rattle.tool_stages.proofs.EnvLemmas.{named_told}
use Rattle.lab_timeline.specs.Alike.{TimelinesTellAlike}
use Rattle.lab_timeline.specs.Timed.{IsTimed}
use Rattle.lab_timeline.specs.Written.{timed_by}
use Rattle.lab_timeline.proofs.Alike.{timeline_of_image}

pub named_timed : {E : Type 0} (v : Env E) (made : Order → List Touch → E) (e : Environment) (hw : Hardware) → hardware_of e ≡ hw → (q : LabelledProgram)
    (code : Code) → IsShaped code → code ≡ lowered q → RunsTellAlike v made (hardware_by_history hw) history_made
    → TimelinesTellAlike v made (hardware_by_history hw) history_made
    → (s : StartValue) → IsFor q.program s → (t : ℕ) (ms : List Moment) → IsTimeline v code.instrs t (start_of made q.program.order s) ms
    → IsTimed e t q.program.order code s (timed_by v code t (start_of made q.program.order s) ms)
named_timed v made e hw is q code shaped image runs alike s fits t ms h =
    record {
      timeline = subst (λ (z : Hardware). IsTimeline (hardware_by_history z q.program.order) code.instrs t (start_of history_made q.program.order s) ms)
          (sym is)
          (timeline_of_image v made (hardware_by_history hw) history_made alike q code image shaped s fits t ms h);
      ends = ap (λ (z : Told). z.end) (named_told v made e hw is q code shaped runs image s fits t);
    }

-- A run comes to one machine.
use Rattle.std.specs.Prelude.{◌≡◌, ℕ, List, ◌↔◌}
use Rattle.env_contract.specs.Env.{Env}
use Rattle.label_code.specs.Machine.{Machine, start}
use Rattle.label_code.specs.Run.{Start, run_from, RunsTo}
use Rattle.label_code.specs.declared.code.Instr.{Instr}

-- from each start the run to T comes to one machine, the computed one
abbrev pub HasOneRun : {E : Type 0} → Env E → Type 0
HasOneRun {E} v = (image : List Instr) (t : ℕ) (s : Start E) (y : Machine E) →
    RunsTo v image t (start s.memory s.env) y ↔ (y ≡ run_from v image t s)

-- The stage of a machine file.
use Rattle.std.specs.Prelude.{◌≡◌, ◌≢◌, ℕ, ◌≤◌, List, Option, length}
use Rattle.tim_base.specs.Told.{limit, IsTold, IsTooLong}
use Rattle.hardware.specs.declared.make.MakeHardware.{MakeHardware}
use Rattle.machine_file.specs.declared.fault.MachineFault.{MachineFault}
use Rattle.machine_file.specs.declared.fault.MachineFault.TheVariants.{Memory}
use Rattle.machine_file.specs.Files.{Describes, Refused}
use Rattle.tool_texts.specs.declared.status.Status.{Status}
use Rattle.tool_texts.specs.declared.status.Status.TheVariants as status
use Rattle.tool_texts.specs.Texts.{machine, read_fault_line, too_long_line}
use Rattle.machine_stage.specs.Lines.{machine_fault_line}

-- the file's bytes describe the machine
pub record MachineIs (content : Option (Option (List ℕ))) (m : MakeHardware) : Type 0 where
  pub bytes : List ℕ
  pub are : IsTold content bytes
  pub short : length bytes ≤ limit
  pub describes : Describes bytes m.hardware

-- they describe none
pub record HasMachineFault (content : Option (Option (List ℕ))) (t : List ℕ) : Type 0 where
  pub bytes : List ℕ
  pub are : IsTold content bytes
  pub short : length bytes ≤ limit
  pub fault : MachineFault
  pub none : fault ≢ Memory
  pub is : Refused bytes fault
  pub line : t ≡ machine_fault_line fault

-- why there is no machine
abbrev pub MachineStops : Type 0 → Option (Option (List ℕ)) → Status → List ℕ → Type 0
MachineStops Rose content status.ReadFault t = Rose × (t ≡ read_fault_line machine)
MachineStops Rose content status.TooLong t = IsTooLong content × (t ≡ too_long_line machine)
MachineStops Rose content status.Starts t = HasMachineFault content t
MachineStops Rose content _ t = ⊥

-- The lines of a machine file that is refused, and the line that tells how a machine is shared.
use Rattle.std.specs.Prelude.{ℕ, List, [], ◌++◌, codes, decimal}
use Rattle.env_contract.specs.declared.place.Place.{Place}
use Rattle.part_tlb.specs.declared.bank.Sharing.{Sharing}
use Rattle.part_tlb.specs.declared.bank.Sharing.TheVariants as sharing
use Rattle.machine_file.specs.declared.fault.MachineFault.{MachineFault}
use Rattle.machine_file.specs.declared.fault.MachineFault.TheVariants.{NotToml, Version, UnknownKey, Sharing as BadSharing, BadBank}
use Rattle.machine_file.specs.declared.fault.MachineFault.TheVariants.{Replacement as BadReplacement, Sets, Ways, Bytes, Costs, Memory}
use Rattle.tool_stages.specs.declared.envs.Environment.{Environment}
use Rattle.tool_stages.specs.declared.envs.Environment.TheVariants.{Named, Described}
use Rattle.tool_texts.specs.Texts.{memory_line}
use Rattle.tool_texts.specs.Reports.{place_name}

-- what is wrong at a place
abbrev pub place_line : Place → List ℕ → List ℕ
place_line p what = codes "machine: " ++ (place_name p ++ (codes ": " ++ (what ++ codes "\n")))

abbrev pub machine_fault_line : MachineFault → List ℕ
machine_fault_line NotToml = codes "machine: not TOML\n"
machine_fault_line Version = codes "machine: version\n"
machine_fault_line UnknownKey = codes "machine: unknown key\n"
machine_fault_line BadSharing = codes "machine: sharing\n"
machine_fault_line (BadBank p) = place_line p (codes "not a bank")
machine_fault_line (BadReplacement p) = place_line p (codes "replace")
machine_fault_line (Sets p) = place_line p (codes "sets")
machine_fault_line (Ways p) = place_line p (codes "ways")
machine_fault_line (Bytes p) = place_line p (codes "bytes")
machine_fault_line (Costs n) = codes "machine: costs " ++ (decimal n ++ codes "\n")
machine_fault_line Memory = memory_line

-- how a machine is shared
abbrev pub machine_line : Sharing → List ℕ
machine_line sharing.Partitioned = codes "machine partitioned\n"
machine_line sharing.Shared = codes "machine shared\n"

-- what stands in front of numbers: nothing of a machine that has a name, else how it is shared
abbrev pub machine_head : Environment → List ℕ
machine_head (Named e) = []
machine_head (Described m) = machine_line m.hardware.sharing

-- what stands in place of numbers that rest on laws, where all labels share the banks
abbrev pub no_bound_line : List ℕ
no_bound_line = codes "no bound: all labels share the banks, and the law on the write label does not hold\n"

use Rattle.sharp_history.proofs.Over.{lowered_own}
use Rattle.part_tlb.specs.Machine.{hardware_by_history}
use Rattle.hardware.specs.Laws.{AnyTouches}
use Rattle.hardware_sharp.proofs.laws.lowered_few_sequences_own_on_machines.Goals as goal

pub returns : goal.returns
returns c = λ hw has own. lowered_own (hardware_by_history hw) AnyTouches (c.machines_and_the_laws.ensures.partitioned hw has own)

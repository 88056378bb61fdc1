use Rattle.sharp_history.proofs.Over.{lowered_sharp, lowered_cut, lowered_end, lowered_shared}
use Rattle.part_tlb.specs.Machine.{hardware_by_history}
use Rattle.hardware.specs.Laws.{AnyTouches}
use Rattle.hardware_sharp.proofs.laws.lowered_few_sequences_sharp_on_machines.Goals as goal

pub returns-clause-halted : goal.returns-clause-halted
returns-clause-halted c = λ hw has own. lowered_sharp (hardware_by_history hw) AnyTouches (c.machines_and_the_laws.ensures.partitioned hw has own)

pub returns-clause-cut : goal.returns-clause-cut
returns-clause-cut c = λ hw has own. lowered_cut (hardware_by_history hw) AnyTouches (c.machines_and_the_laws.ensures.partitioned hw has own)

pub returns-clause-ended : goal.returns-clause-ended
returns-clause-ended c = λ hw has own. lowered_end (hardware_by_history hw) AnyTouches (c.machines_and_the_laws.ensures.partitioned hw has own)

pub returns-clause-shared : goal.returns-clause-shared
returns-clause-shared c = λ hw has own. lowered_shared (hardware_by_history hw) AnyTouches (c.machines_and_the_laws.ensures.partitioned hw has own)

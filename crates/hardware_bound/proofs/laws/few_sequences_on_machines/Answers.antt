use Rattle.code_lower.proofs.Order.{keeps_order}
use Rattle.leak_bound.proofs.Over.{sound_over, shows_one_over, cut_sound_over}
use Rattle.part_tlb.specs.Machine.{hardware_by_history}
use Rattle.hardware.specs.Laws.{AnyTouches}
use Rattle.hardware_bound.proofs.laws.few_sequences_on_machines.Goals as goal

pub returns-clause-halted : goal.returns-clause-halted
returns-clause-halted c = λ hw has own. sound_over (hardware_by_history hw) AnyTouches (c.machines_and_the_laws.ensures.partitioned hw has own)

pub returns-clause-quiet : goal.returns-clause-quiet
returns-clause-quiet c = λ hw has own. shows_one_over (hardware_by_history hw) AnyTouches (c.machines_and_the_laws.ensures.partitioned hw has own)

pub returns-clause-cut : goal.returns-clause-cut
returns-clause-cut c = λ hw has own. cut_sound_over (hardware_by_history hw) AnyTouches (c.machines_and_the_laws.ensures.partitioned hw has own)

pub returns-clause-order : goal.returns-clause-order
returns-clause-order c = λ hw order lat labels image p code. keeps_order (hardware_by_history hw order) lat labels image p code

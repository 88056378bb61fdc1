use Rattle.part_tlb.specs.Machine.{hardware_by_history}
use Rattle.hardware.specs.Laws.{AnyTouches}
use Rattle.gain_bound.proofs.Programs.{lowered_worth}
use Rattle.gain_bound.proofs.laws.lowered_few_worth_on_machines.Goals as goal

pub returns : goal.returns
returns g c = λ hw has own. lowered_worth _ (hardware_by_history hw) AnyTouches (c.machines_and_the_laws.ensures.partitioned hw has own)

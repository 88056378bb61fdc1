use Rattle.leak_bound.proofs.Over.{lowered_sound, lowered_shows_one, lowered_cut_sound}
use Rattle.part_tlb.specs.Machine.{hardware_by_history}
use Rattle.hardware.specs.Laws.{AnyTouches}
use Rattle.hardware_bound.proofs.laws.lowered_few_sequences_on_machines.Goals as goal

pub returns-clause-halted : goal.returns-clause-halted
returns-clause-halted c = λ hw has own. lowered_sound (hardware_by_history hw) AnyTouches (c.few_sequences_on_machines.ensures.halted hw has own)

pub returns-clause-quiet : goal.returns-clause-quiet
returns-clause-quiet c = λ hw has own. lowered_shows_one (hardware_by_history hw) AnyTouches (c.few_sequences_on_machines.ensures.quiet hw has own)

pub returns-clause-cut : goal.returns-clause-cut
returns-clause-cut c = λ hw has own. lowered_cut_sound (hardware_by_history hw) AnyTouches (c.few_sequences_on_machines.ensures.cut hw has own)

use Rattle.code_lower.proofs.Order.{keeps_order}
use Rattle.leak_bound.proofs.Over.{sound_over, shows_one_over, cut_sound_over}
use Rattle.history_bound.specs.Over.{AnyHistory}
use Rattle.history_bound.proofs.laws.few_sequences_of_histories.Goals as goal

pub returns-clause-halted : goal.returns-clause-halted
returns-clause-halted c = λ v laws. sound_over v AnyHistory laws

pub returns-clause-quiet : goal.returns-clause-quiet
returns-clause-quiet c = λ v laws. shows_one_over v AnyHistory laws

pub returns-clause-cut : goal.returns-clause-cut
returns-clause-cut c = λ v laws. cut_sound_over v AnyHistory laws

pub returns-clause-order : goal.returns-clause-order
returns-clause-order c = λ v order lat labels image p code. keeps_order (v order) lat labels image p code

use Rattle.history_bound.specs.Over.{AnyHistory}
use Rattle.sharp_history.proofs.Over.{lowered_sharp, lowered_cut, lowered_end, lowered_shared}
use Rattle.sharp_history.proofs.laws.lowered_few_sequences_sharp_of_histories.Goals as goal

pub returns-clause-halted : goal.returns-clause-halted
returns-clause-halted c = λ v laws. lowered_sharp v AnyHistory laws

pub returns-clause-cut : goal.returns-clause-cut
returns-clause-cut c = λ v laws. lowered_cut v AnyHistory laws

pub returns-clause-ended : goal.returns-clause-ended
returns-clause-ended c = λ v laws. lowered_end v AnyHistory laws

pub returns-clause-shared : goal.returns-clause-shared
returns-clause-shared c = λ v laws. lowered_shared v AnyHistory laws

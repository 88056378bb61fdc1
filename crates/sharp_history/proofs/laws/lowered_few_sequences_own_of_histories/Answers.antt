use Rattle.history_bound.specs.Over.{AnyHistory}
use Rattle.sharp_history.proofs.Over.{lowered_own}
use Rattle.sharp_history.proofs.laws.lowered_few_sequences_own_of_histories.Goals as goal

pub returns : goal.returns
returns c = λ v laws. lowered_own v AnyHistory laws

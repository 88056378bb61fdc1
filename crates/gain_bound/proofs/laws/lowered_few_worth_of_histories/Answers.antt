use Rattle.history_bound.specs.Over.{AnyHistory}
use Rattle.gain_bound.proofs.Programs.{lowered_worth}
use Rattle.gain_bound.proofs.laws.lowered_few_worth_of_histories.Goals as goal

pub returns : goal.returns
returns g c = λ v laws. lowered_worth _ v AnyHistory laws

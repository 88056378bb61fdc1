use Rattle.leak_bound.proofs.Over.{lowered_sound, lowered_shows_one, lowered_cut_sound}
use Rattle.history_bound.specs.Over.{AnyHistory}
use Rattle.history_bound.proofs.laws.lowered_few_sequences_of_histories.Goals as goal

pub returns-clause-halted : goal.returns-clause-halted
returns-clause-halted c = λ v laws. lowered_sound v AnyHistory (c.few_sequences_of_histories.ensures.halted v laws)

pub returns-clause-quiet : goal.returns-clause-quiet
returns-clause-quiet c = λ v laws. lowered_shows_one v AnyHistory (c.few_sequences_of_histories.ensures.quiet v laws)

pub returns-clause-cut : goal.returns-clause-cut
returns-clause-cut c = λ v laws. lowered_cut_sound v AnyHistory (c.few_sequences_of_histories.ensures.cut v laws)

use Rattle.std.specs.Prelude.{IsTrue}
use Rattle.leak_bound.proofs.Over.{sound_over, shows_one_over, cut_sound_over}
use Rattle.leak_bound.proofs.laws.few_sequences_of_lawful.Goals as goal

pub returns-clause-halted : goal.returns-clause-halted
returns-clause-halted g c = λ v test laws. sound_over v (λ order e. IsTrue (test order e)) laws

pub returns-clause-quiet : goal.returns-clause-quiet
returns-clause-quiet g c = λ v test laws. shows_one_over v (λ order e. IsTrue (test order e)) laws

pub returns-clause-cut : goal.returns-clause-cut
returns-clause-cut g c = λ v test laws. cut_sound_over v (λ order e. IsTrue (test order e)) laws

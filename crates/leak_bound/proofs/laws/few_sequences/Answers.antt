use Rattle.leak_bound.proofs.Over.{sound_over, shows_one_over, cut_sound_over}
use Rattle.leak_bound.proofs.laws.few_sequences.Goals as goal

pub returns-clause-halted : goal.returns-clause-halted
returns-clause-halted g c = sound_over _ _ g.met.E.LawfulEnv.lawful

pub returns-clause-quiet : goal.returns-clause-quiet
returns-clause-quiet g c = shows_one_over _ _ g.met.E.LawfulEnv.lawful

pub returns-clause-cut : goal.returns-clause-cut
returns-clause-cut g c = cut_sound_over _ _ g.met.E.LawfulEnv.lawful

use Rattle.leak_bound.proofs.Over.{sound_over, shows_one_over, cut_sound_over, lowered_sound, lowered_shows_one, lowered_cut_sound}
use Rattle.leak_bound.proofs.laws.lowered_few_sequences.Goals as goal

pub returns-clause-halted : goal.returns-clause-halted
returns-clause-halted g c = lowered_sound _ _ (sound_over _ _ g.met.E.LawfulEnv.lawful)

pub returns-clause-quiet : goal.returns-clause-quiet
returns-clause-quiet g c = lowered_shows_one _ _ (shows_one_over _ _ g.met.E.LawfulEnv.lawful)

pub returns-clause-cut : goal.returns-clause-cut
returns-clause-cut g c = lowered_cut_sound _ _ (cut_sound_over _ _ g.met.E.LawfulEnv.lawful)

use Rattle.gain_bound.proofs.Gain.{views_gain_few, choices_gain_few}
use Rattle.gain_bound.proofs.laws.few_gains.Goals as goal

pub returns-clause-views : goal.returns-clause-views
returns-clause-views g c = views_gain_few _ _ _

pub returns-clause-choices : goal.returns-clause-choices
returns-clause-choices g c = choices_gain_few _ _ _

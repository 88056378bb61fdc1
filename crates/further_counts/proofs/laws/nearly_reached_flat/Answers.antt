use Rattle.further_counts.proofs.Near.{nearly_reached}
use Rattle.further_counts.proofs.TwoLabels.{two_labels_are}
use Rattle.further_counts.proofs.laws.nearly_reached_flat.Goals as goal

pub returns-clause-reached : goal.returns-clause-reached
returns-clause-reached c = nearly_reached _ _

pub returns-clause-two : goal.returns-clause-two
returns-clause-two c = two_labels_are

use Rattle.lab_bound.proofs.Single.{bound_once}
use Rattle.lab_bound.proofs.laws.one_bound.Goals as goal

pub returns : goal.returns
returns c = bound_once

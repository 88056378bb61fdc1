use Rattle.first_walk.proofs.Between.{told_between as proof}
use Rattle.first_walk.proofs.laws.told_between.Goals as goal

pub returns : goal.returns
returns c = proof

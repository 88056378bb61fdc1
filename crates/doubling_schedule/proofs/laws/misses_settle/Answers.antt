use Rattle.doubling_schedule.proofs.SettleLemmas.{misses_after-settles}
use Rattle.doubling_schedule.proofs.laws.misses_settle.Goals as goal

pub returns : goal.returns
returns c = misses_after-settles

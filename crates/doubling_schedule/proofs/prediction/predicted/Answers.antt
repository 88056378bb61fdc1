use Rattle.std.proofs.Common.{◌≤◌, ◌^◌, arith}
use Rattle.doubling_schedule.proofs.SettleLemmas.{small_prediction}
use Rattle.doubling_schedule.proofs.prediction.predicted.Goals as goal

pub returns-clause-small : goal.returns-clause-small
returns-clause-small c =
    let base : c.from.result ≤ 2 ^ 63 = omega (arith, c.from.ensures, c.at_least_one.ensures.small) in
    small_prediction c.from.result c.args.misses c.pow.result base c.requires (grind (arith, c.pow.ensures, c.from-2.ensures))

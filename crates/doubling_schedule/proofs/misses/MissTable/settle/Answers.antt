use Rattle.std.proofs.Common.{◌<◌, arith, w64}
use Rattle.std.proofs.lemmas.Int.{to_z-of_z}
use Rattle.std.proofs.lemmas.List.{get_or-set_same}
use Rattle.std.proofs.lemmas.Grind.{common_steps}
use Rattle.doubling_schedule.specs.Doubling.{prediction}
use Rattle.doubling_schedule.proofs.SettleLemmas.{count_is, table_is}
use Rattle.doubling_schedule.proofs.misses.MissTable.settle.Goals as goal

pub returns-clause-count : goal.returns-clause-count
returns-clause-count c =
    let above : c.args.elapsed < prediction c.args.n c.loop-count.count =
    grind (arith, to_z-of_z, c.predicted.ensures.value, c.from.ensures, c.loop-count-test.false) in
    let count = count_is _ _ _ _ _ _ _ _ c.self.view_is c.from-level.ensures (to_z-of_z w64 c.args.n c.ranges.n) c.loop-count.invariant.missed above in
    grind (arith, common_steps, get_or-set_same, c.from-level.ensures, count)

pub returns-clause-counts : goal.returns-clause-counts
returns-clause-counts c =
    let above : c.args.elapsed < prediction c.args.n c.loop-count.count =
    grind (arith, to_z-of_z, c.predicted.ensures.value, c.from.ensures, c.loop-count-test.false) in
    let count = count_is _ _ _ _ _ _ _ _ c.self.view_is c.from-level.ensures (to_z-of_z w64 c.args.n c.ranges.n) c.loop-count.invariant.missed above in
    table_is _ _ _ _ _ _ c.self.view_is c.from-level.ensures count

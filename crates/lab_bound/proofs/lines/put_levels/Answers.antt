use Rattle.std.proofs.Common.{◌<◌, length}
use Rattle.lab_bound.proofs.Putting.{next_put}
use Rattle.lab_bound.proofs.lines.put_levels.Goals as goal

pub loop-number-preserved : goal.loop-number-preserved
loop-number-preserved c =
    let lt : c.loop-number.number < length c.args.levels.now = c.loop-number-test.true in
    next_put c.args.order.now c.args.observer.number c.args.t c.args.levels.now c.args.text.now.items c.loop-number.number c.new.result.number
    c.loop-number.text.items c.put_level.new.text.items lt c.new.ensures c.loop-number.invariant c.in_ok-put_level.ensures

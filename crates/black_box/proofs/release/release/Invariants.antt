use Rattle.std.proofs.Common.{suc, ◌-◌}
use Rattle.black_box.proofs.UnderWay.{IsUnderWay}
use Rattle.black_box.proofs.release.release.Given as goal

abbrev pub invariant-loop-slot : goal.invariant-loop-slot
invariant-loop-slot l = IsUnderWay l.fn.first l.limit l.ready l.slot l.length l.epochs l.at.items

abbrev pub decreases-loop-slot : goal.decreases-loop-slot
decreases-loop-slot l = suc l.limit - l.slot

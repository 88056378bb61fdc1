use Rattle.std.proofs.Common.{◌≤◌, length}
use Rattle.steady_code.specs.View.{low_in}
use Rattle.steady_code.proofs.Quiet.{IsTail}
use Rattle.steady_code.proofs.tail.last_seen.Given as goal

-- what is known of the places so far
abbrev pub invariant-loop-back : goal.invariant-loop-back
invariant-loop-back l =
    (l.end ≤ length l.image.instrs) × (l.least ≤ length l.image.instrs)
    × IsTail (low_in l.lattice l.labels l.observer.number) l.image.instrs l.back l.end l.least

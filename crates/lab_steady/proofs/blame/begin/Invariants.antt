use Rattle.std.proofs.Common.{◌≡◌, ◌≤◌, ◌+◌, ◌*◌}
use Rattle.lab_steady.specs.Blame.{begin_of}
use Rattle.lab_steady.proofs.blame.begin.Given as goal

abbrev pub invariant-loop-wanted : goal.invariant-loop-wanted
invariant-loop-wanted l =
    (l.at ≤ l.place)
    × (l.wanted + 2 * l.at ≤ 1 + 2 * l.place)
    × (begin_of l.image.instrs 1 l.place ≡ begin_of l.image.instrs l.wanted l.at)

abbrev pub decreases-loop-wanted : goal.decreases-loop-wanted
decreases-loop-wanted l = l.at

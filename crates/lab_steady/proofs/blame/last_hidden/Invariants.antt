use Rattle.std.proofs.Common.{◌≡◌, ◌≤◌, ◌-◌}
use Rattle.timing_types.specs.Labelled.{order_of, labels_of}
use Rattle.steady_code.specs.Timed.{low_of}
use Rattle.lab_steady.specs.Blame.{hidden_in}
use Rattle.lab_steady.proofs.blame.last_hidden.Given as goal

abbrev pub invariant-loop-at : goal.invariant-loop-at
invariant-loop-at l =
    (l.at ≤ l.to)
    × (hidden_in (low_of (order_of l.p) (labels_of l.p) l.observer.number) l.image.instrs l.from l.to
    ≡ hidden_in (low_of (order_of l.p) (labels_of l.p) l.observer.number) l.image.instrs l.from l.at)

abbrev pub decreases-loop-at : goal.decreases-loop-at
decreases-loop-at l = l.at - l.from

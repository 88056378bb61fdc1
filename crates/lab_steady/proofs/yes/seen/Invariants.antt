use Rattle.std.proofs.Common.{◌≡◌, ◌≤◌}
use Rattle.timing_types.specs.Labelled.{order_of, labels_of}
use Rattle.steady_code.specs.Timed.{low_of}
use Rattle.lab_steady.specs.Text.{seen_below}
use Rattle.lab_steady.proofs.yes.seen.Given as goal

abbrev pub invariant-loop-x : goal.invariant-loop-x
invariant-loop-x l = (l.count ≤ l.x) × (l.count ≡ seen_below (low_of (order_of l.p) (labels_of l.p) l.observer.number) l.x)

use Rattle.std.proofs.Common.{◌≡◌, ◌<◌, ◌≤◌, ℕ, true, length}
use Rattle.std.specs.Prelude.{slice_index_or}
use Rattle.timing_types.specs.Labelled.{order_of, labels_of}
use Rattle.timing_types.proofs.labelled.Labelled.mark_seen.Given as goal

abbrev pub invariant-loop-x : goal.invariant-loop-x
invariant-loop-x l = record {
  long : length l.seen ≡ length l.fn.seen;
  marked : (x : ℕ) → x < l.x → slice_index_or l.seen x true ≡ (order_of l.self).flows (labels_of l.self x) l.observer.number;
  kept : (x : ℕ) → l.x ≤ x → slice_index_or l.seen x true ≡ slice_index_or l.fn.seen x true;
}

use Rattle.std.proofs.Common.{length, ◌==◌}
use Rattle.std.specs.List.{slice_split}
use Rattle.black_box.specs.Files.{lists}
use Rattle.black_box.proofs.FileLemmas.{IsRead}
use Rattle.black_box.proofs.ready.all_runs.Given as goal

abbrev pub invariant-loop-line : goal.invariant-loop-line
invariant-loop-line l =
    (goal.iterator-loop-line).can_next l.line-iterator
    × (goal.iterator-loop-line).is_finite l.line-iterator
    × IsRead (slice_split (λ b. b == 10) l.bytes) (length l.yielded) l.number (lists l.runs)

use Rattle.std.proofs.Common.{◌≡◌, ◌<◌, ◌^◌}
use Rattle.leak_bound.specs.Rising.{rising}
use Rattle.sharp_count.proofs.lists.never_falling.Given as goal

-- the number for the values so far
abbrev pub invariant-loop-value : goal.invariant-loop-value
invariant-loop-value l = (l.lists ≡ rising l.value l.entries) × (l.lists < 2 ^ 128)

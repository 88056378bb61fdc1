use Rattle.std.proofs.Common.{◌≡◌, [], replicate}
use Rattle.level_counts.specs.Listed.{lists}
use Rattle.level_counts.proofs.firsts.empty_lists.Given as goal

-- so many lists of nothing so far
abbrev pub invariant-loop : goal.invariant-loop
invariant-loop l = lists l.listed.items ≡ replicate l.counter []

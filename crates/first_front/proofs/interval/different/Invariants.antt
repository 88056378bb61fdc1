use Rattle.std.proofs.Common.{◌≡◌, ◌+◌, ◌≤◌, map, drop, eqb}
use Rattle.std.specs.Cmp.Lexicographic.{pointwise}
use Rattle.std.specs.Set.{distinct_count}
use Rattle.first_front.proofs.interval.different.Given as goal

abbrev pub invariant-loop-index : goal.invariant-loop-index
invariant-loop-index l = record {
  counted : l.different + distinct_count (pointwise eqb) (map (λ x. x.items) (drop l.index l.lists)) ≡ distinct_count (pointwise eqb) (map (λ x. x.items)
      l.lists);
  few : l.different ≤ l.index;
}

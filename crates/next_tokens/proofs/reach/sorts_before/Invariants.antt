use Rattle.std.proofs.Common.{take}
use Rattle.next_tokens.specs.Following.{all_sorts}
use Rattle.next_tokens.specs.Parts.{left_of, AreTaken}
use Rattle.next_tokens.proofs.reach.sorts_before.Given as goal

abbrev pub invariant-loop-sort : goal.invariant-loop-sort
invariant-loop-sort l = AreTaken (left_of l.parts) (take l.sort-index all_sorts) l.sorts.items

use Rattle.std.proofs.Common.{◌≡◌, ◌++◌, replicate}
use Rattle.std.specs.Prelude.{All}
use Rattle.space_file.specs.Ranges.{zero_only}
use Rattle.space_starts.specs.Space.{lists, IsValues}
use Rattle.space_file.proofs.memory.put_zeros.Given as goal

-- so many variables are put
abbrev pub invariant-loop-placed : goal.invariant-loop-placed
invariant-loop-placed l = record {
  put : lists l.memory.items ≡ lists l.initial.memory.items ++ replicate l.placed zero_only;
  are : All IsValues (lists l.initial.memory.items) → All IsValues (lists l.memory.items);
}

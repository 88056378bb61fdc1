use Rattle.std.specs.Prelude.{All}
use Rattle.space_starts.specs.Space.{lists, IsValues}
use Rattle.space_file.proofs.Filling.{Filling}
use Rattle.space_file.proofs.memory.put_items.Given as goal

-- the values of the first items are put
abbrev pub invariant-loop-value : goal.invariant-loop-value
invariant-loop-value l = record {
  put : Filling (lists l.initial.memory.items) (lists l.memory.items) l.values l.value-index;
  are : All IsValues (lists l.initial.memory.items) → All IsValues (lists l.memory.items);
}

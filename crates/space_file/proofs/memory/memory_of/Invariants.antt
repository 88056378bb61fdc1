use Rattle.std.specs.Prelude.{All}
use Rattle.toml.specs.View.{table_view}
use Rattle.space_starts.specs.Space.{lists, IsValues}
use Rattle.space_file.proofs.Filling.{Declared}
use Rattle.space_file.proofs.memory.memory_of.Given as goal

-- the values of the first declarations are put
abbrev pub invariant-loop-k : goal.invariant-loop-k
invariant-loop-k l = record {
  put : Declared l.program.declarations (table_view l.table) l.k (lists l.memory.items);
  are : All IsValues (lists l.memory.items);
}

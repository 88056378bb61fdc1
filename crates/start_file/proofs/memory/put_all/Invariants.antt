use Rattle.std.proofs.Common.{◌≡◌, length, map}
use Rattle.std.specs.Map.Iter.{deref_pair}
use Rattle.toml.specs.View.{members_view}
use Rattle.toml.specs.Data.{Members}
use Rattle.mit_syntax.specs.Declarations.{variables}
use Rattle.start_file.specs.Values.{values_pass, memory_of}
use Rattle.start_file.specs.Shared.{filled}
use Rattle.start_file.proofs.memory.put_all.Given as goal

-- the values of the keys so far are good and written, and those of the rest decide
abbrev pub invariant-loop-key : goal.invariant-loop-key
invariant-loop-key l = record {
  passes : values_pass l.program.declarations (members_view l.table.entries) ≡ values_pass l.program.declarations (members_view l.key-iterator);
  size : length l.memory ≡ variables l.program.declarations;
  memory : (shared : Members) → l.initial.memory ≡ memory_of l.program.declarations shared
      → l.memory ≡ memory_of l.program.declarations (filled (members_view (map deref_pair l.yielded)) shared);
}

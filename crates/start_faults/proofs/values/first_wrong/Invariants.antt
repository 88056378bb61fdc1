use Rattle.std.proofs.Common.{◌≡◌}
use Rattle.toml.specs.View.{members_view}
use Rattle.start_faults.specs.Values.{first_wrong}
use Rattle.start_faults.proofs.values.first_wrong.Given as goal

abbrev pub invariant-loop-key : goal.invariant-loop-key
invariant-loop-key l = first_wrong l.program.declarations (members_view l.table.entries) ≡ first_wrong l.program.declarations (members_view l.key-iterator)

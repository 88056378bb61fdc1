use Rattle.std.proofs.Common.{◌≡◌}
use Rattle.toml.specs.View.{members_view}
use Rattle.start_faults.specs.Found.{first_unknown, has_key}
use Rattle.start_faults.proofs.keys.first_unknown.Given as goal

abbrev pub invariant-loop-key : goal.invariant-loop-key
invariant-loop-key l = first_unknown (has_key l.keys) (members_view l.table.entries) ≡ first_unknown (has_key l.keys) (members_view l.key-iterator)

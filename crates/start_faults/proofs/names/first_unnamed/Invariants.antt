use Rattle.std.proofs.Common.{◌≡◌, ℕ, List}
use Rattle.toml.specs.View.{members_view}
use Rattle.start_file.specs.Values.{is_key, slot_of}
use Rattle.start_faults.specs.Found.{first_unknown}
use Rattle.start_faults.specs.Names.{version_if}
use Rattle.start_faults.proofs.names.first_unnamed.Given as goal

abbrev pub invariant-loop-key : goal.invariant-loop-key
invariant-loop-key l =
    first_unknown (λ w. is_key (version_if l.two) (slot_of l.program.declarations w)) (members_view l.table.entries)
    ≡ first_unknown (λ w. is_key (version_if l.two) (slot_of l.program.declarations w)) (members_view l.key-iterator)

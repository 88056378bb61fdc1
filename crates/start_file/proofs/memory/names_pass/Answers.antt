use Rattle.std.proofs.Common.{◌∙◌}
use Rattle.toml.proofs.Views.{view-Table}
use Rattle.start_file.specs.Values.{is_key, slot_of}
use Rattle.start_file.proofs.TableLemmas.{keys_pass_view}
use Rattle.start_file.proofs.memory.names_pass.Goals as goal

pub returns-in-Table : goal.returns-in-Table
returns-in-Table c =
    rw (c.in-Some.is, c.in-Table.is, view-Table)
    (c.has_known_keys.ensures ∙ keys_pass_view (λ w. is_key c.args.version (slot_of c.args.program.now.declarations w)) c.in-Table.table.entries)

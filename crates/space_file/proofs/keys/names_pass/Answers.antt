use Rattle.std.proofs.Common.{◌∙◌}
use Rattle.std.specs.Prelude.{is_some}
use Rattle.toml.proofs.Views.{view-Table}
use Rattle.mit_syntax.specs.Declarations.{declared}
use Rattle.start_file.proofs.TableLemmas.{keys_pass_view}
use Rattle.space_file.proofs.keys.names_pass.Goals as goal

pub returns-in-Table : goal.returns-in-Table
returns-in-Table c =
    rw (c.in-Some.is, c.in-Table.is, view-Table)
    (c.has_known_names.ensures ∙ keys_pass_view (λ w. is_some (declared c.args.program.now.declarations w)) c.in-Table.table.entries)

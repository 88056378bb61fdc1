use Rattle.std.proofs.Common.{sym, Some}
use Rattle.toml.specs.View.{table_view}
use Rattle.start_file.proofs.ForProgram.{list_for}
use Rattle.start_file.proofs.shared.read_list.Goals as goal

pub returns-in-Err-clause-refused : goal.returns-in-Err-clause-refused
returns-in-Err-clause-refused c n = (Some (table_view c.in_ok-table.table), c.in_ok-table.ensures.ok, sym (c.in-Err.ensures.refused n))

pub returns-clause-ok : goal.returns-clause-ok
returns-clause-ok c = (Some (table_view c.in_ok-table.table), c.in_ok-table.ensures.ok, sym c.in-Ok.ensures.ok)

pub returns-clause-valid : goal.returns-clause-valid
returns-clause-valid c = list_for c.args.program.now c.laws.ensures.valid.order (table_view c.in_ok-table.table) _ c.in-Ok.ensures.ok

use Rattle.std.proofs.Common.{sym}
use Rattle.toml.specs.View.{table_view}
use Rattle.machine_file.specs.Files.{no_machine, too_great}
use Rattle.machine_file.proofs.read.read_machine.Goals as goal

pub returns-in-Err-clause-refused : goal.returns-in-Err-clause-refused
returns-in-Err-clause-refused c n = no_machine (table_view c.in_ok-table.table) c.in-Err.fault c.in_ok-table.ensures.ok (sym c.in-Err.ensures)

pub returns-in-Some-clause-refused : goal.returns-in-Some-clause-refused
returns-in-Some-clause-refused c n =
    too_great (table_view c.in_ok-table.table) c.in-Ok.hardware c.in-Some.fault c.in_ok-table.ensures.ok (sym c.in-Ok.ensures) (sym c.in-Some.ensures.value)

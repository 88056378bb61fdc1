use Rattle.std.proofs.Common.{◌∙◌, ap}
use Rattle.start_file.specs.Starts.{is_run_key}
use Rattle.start_file.specs.Values.{names_pass}
use Rattle.start_file.proofs.TableLemmas.{keys_told}
use Rattle.start_file.proofs.run.run_keys_pass.Goals as goal

pub returns-then-has_run_keys : goal.returns-then-has_run_keys
returns-then-has_run_keys c =
    let known = keys_told is_run_key c.args.table.now.entries c.has_run_keys.result _ c.has_run_keys.ensures c.if-has_run_keys.true in
    rw known (c.names_pass.ensures ∙ ap (names_pass c.args.version c.args.program.now.declarations) c.at.ensures)

pub returns-else-has_run_keys : goal.returns-else-has_run_keys
returns-else-has_run_keys c =
    let known = keys_told is_run_key c.args.table.now.entries c.has_run_keys.result _ c.has_run_keys.ensures c.if-has_run_keys.false in
    rw known c.if-has_run_keys.false

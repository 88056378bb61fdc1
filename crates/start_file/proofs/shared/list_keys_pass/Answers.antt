use Rattle.std.proofs.Common.{◌∙◌, ap}
use Rattle.start_file.specs.declared.version.Version.TheVariants.{Two}
use Rattle.start_file.specs.Values.{names_pass}
use Rattle.start_file.specs.Shared.{is_list_key}
use Rattle.start_file.proofs.TableLemmas.{keys_told}
use Rattle.start_file.proofs.shared.list_keys_pass.Goals as goal

pub returns-then-has_list_keys : goal.returns-then-has_list_keys
returns-then-has_list_keys c =
    let known = keys_told is_list_key c.args.table.now.entries c.has_list_keys.result _ c.has_list_keys.ensures c.if-has_list_keys.true in
    rw known (c.names_pass.ensures ∙ ap (names_pass Two c.args.program.now.declarations) c.at.ensures)

pub returns-else-has_list_keys : goal.returns-else-has_list_keys
returns-else-has_list_keys c =
    let known = keys_told is_list_key c.args.table.now.entries c.has_list_keys.result _ c.has_list_keys.ensures c.if-has_list_keys.false in
    rw known c.if-has_list_keys.false

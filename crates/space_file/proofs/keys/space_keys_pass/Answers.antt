use Rattle.std.proofs.Common.{◌∙◌, ap}
use Rattle.start_file.proofs.TableLemmas.{keys_told}
use Rattle.space_file.specs.Files.{is_space_key}
use Rattle.space_file.specs.Ranges.{names_pass}
use Rattle.space_file.proofs.keys.space_keys_pass.Goals as goal

pub returns-then-has_space_keys : goal.returns-then-has_space_keys
returns-then-has_space_keys c =
    let known = keys_told is_space_key c.args.table.now.entries c.has_space_keys.result _ c.has_space_keys.ensures c.if-has_space_keys.true in
    rw known (c.names_pass.ensures ∙ ap (names_pass c.args.program.now.declarations) c.at.ensures)

pub returns-else-has_space_keys : goal.returns-else-has_space_keys
returns-else-has_space_keys c =
    let known = keys_told is_space_key c.args.table.now.entries c.has_space_keys.result _ c.has_space_keys.ensures c.if-has_space_keys.false in
    rw known c.if-has_space_keys.false

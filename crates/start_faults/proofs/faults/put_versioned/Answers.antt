use Rattle.std.proofs.Common.{◌≡◌, ◌∙◌, ◌++◌, Option, None, sym, ap, codes}
use Rattle.std.specs.Prelude.{option_map}
use Rattle.toml.specs.Data.{Data, get_member}
use Rattle.toml.specs.View.{table_view}
use Rattle.start_file.specs.declared.version.Version.{Version}
use Rattle.start_file.specs.Versions.{version_of}
use Rattle.start_faults.specs.Found.{place_lines}
use Rattle.start_faults.specs.Names.{version_if}
use Rattle.start_faults.specs.Told.{versioned_lines}
use Rattle.start_faults.proofs.faults.put_versioned.Goals as goal

pub returns-in_ok-put_place-in-None : goal.returns-in_ok-put_place-in-None
returns-in_ok-put_place-in-None c =
    let ms = table_view c.args.table.now in
    let none : version_of (get_member (codes "version") ms) ≡ None =
    sym (ap version_of c.at-version.ensures) ∙ sym c.stated.ensures ∙ ap (option_map version_if) c.in-None.is in
    c.in_ok-put_place-in-None.ensures
    ∙ ap (λ (d : Option Data). c.args.out.now.items ++ place_lines (codes "version") d (codes "1 or 2")) c.at-version.ensures
    ∙ sym (ap (λ (v : Option Version). c.args.out.now.items ++ versioned_lines c.args.program.now v ms c.args.fault) none)

use Rattle.std.proofs.Common.{◌∙◌, refl, sym, ap, Option}
use Rattle.std.specs.Prelude.{is_some}
use Rattle.toml.specs.Data.{Data}
use Rattle.toml.specs.View.{table_view}
use Rattle.start_file.specs.Touches.{address_of, label_of, place_of}
use Rattle.start_faults.specs.Names.{version_if}
use Rattle.start_faults.proofs.Walks.{touch_tests}
use Rattle.start_faults.proofs.touches.is_touch_in.Goals as goal

pub returns-then-not-has_touch_keys : goal.returns-then-not-has_touch_keys
returns-then-not-has_touch_keys c =
    sym (touch_tests (version_if c.args.two) c.args.lattice.now (table_view c.args.table.now) c.has_touch_keys.result _ _ _
    c.has_touch_keys.ensures refl refl refl ∙ rw c.if-not-has_touch_keys.true)

pub returns-then-not-is_place : goal.returns-then-not-is_place
returns-then-not-is_place c =
    let place = c.is_place.ensures ∙ ap (λ (d : Option Data). is_some (place_of (version_if c.args.two) d)) c.at-place.ensures in
    sym (touch_tests (version_if c.args.two) c.args.lattice.now (table_view c.args.table.now) c.has_touch_keys.result c.is_place.result _ _
    c.has_touch_keys.ensures place refl refl ∙ rw (c.if-not-has_touch_keys.false, c.if-not-is_place.true))

pub returns-then-not-is_label : goal.returns-then-not-is_label
returns-then-not-is_label c =
    let place = c.is_place.ensures ∙ ap (λ (d : Option Data). is_some (place_of (version_if c.args.two) d)) c.at-place.ensures in
    let label = c.is_label.ensures ∙ ap (λ (d : Option Data). is_some (label_of c.args.lattice.now d)) c.at-label.ensures in
    sym (touch_tests (version_if c.args.two) c.args.lattice.now (table_view c.args.table.now) c.has_touch_keys.result c.is_place.result c.is_label.result _
    c.has_touch_keys.ensures place label refl ∙ rw (c.if-not-has_touch_keys.false, c.if-not-is_place.false, c.if-not-is_label.true))

pub returns : goal.returns
returns c =
    let place = c.is_place.ensures ∙ ap (λ (d : Option Data). is_some (place_of (version_if c.args.two) d)) c.at-place.ensures in
    let label = c.is_label.ensures ∙ ap (λ (d : Option Data). is_some (label_of c.args.lattice.now d)) c.at-label.ensures in
    let address = c.is_address.ensures ∙ ap (λ (d : Option Data). is_some (address_of d)) c.at-address.ensures in
    sym (touch_tests (version_if c.args.two) c.args.lattice.now (table_view c.args.table.now) c.has_touch_keys.result c.is_place.result c.is_label.result
    c.is_address.result c.has_touch_keys.ensures place label address
    ∙ rw (c.if-not-has_touch_keys.false, c.if-not-is_place.false, c.if-not-is_label.false))

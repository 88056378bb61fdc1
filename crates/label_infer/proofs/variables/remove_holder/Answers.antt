use Rattle.std.proofs.Common.{◌≡◌, ◌<◌, refl, rules, ap, ◌∙◌, get_or, length, subst}
use Rattle.std.specs.Prelude.{slice_get, slice_set, Some}
use Rattle.std.proofs.lemmas.Option.{slice_get_read}
use Rattle.label_infer.specs.declared.row.Row.{Row}
use Rattle.label_infer.specs.Holders.{Tell}
use Rattle.label_infer.proofs.Holding.{tell_less, less_of}
use Rattle.label_infer.proofs.variables.remove_holder.Goals as goal

pub returns-clause-told : goal.returns-clause-told
returns-clause-told c p t =
    let rows = c.args.holders.now in
    let i = c.from-l.result in
    let r : Row = c.index-holders-l.result in
    let within : i < length rows = search rules in
    let row = get_or rows i r in
    let there : slice_get rows i ≡ Some row = slice_get_read rows (length rows) i r refl within c.index-holders-l.is ∙ ap Some c.index-holders-l.is in
    subst (λ n. Tell (slice_set rows i c.remove.new.self) (less_of p n c.args.x)) c.from-l.ensures
    (tell_less rows p i c.args.x row c.remove.new.self there c.remove.ensures t)

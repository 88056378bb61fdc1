use Rattle.std.proofs.Common.{◌≡◌, ◌∙◌, Some, ap, w64, to_z, of_z, arith, rules}
use Rattle.toml.specs.View.{view}
use Rattle.toml.proofs.Views.{get_item_within, get_item_past}
use Rattle.start_file.specs.Values.{number_of}
use Rattle.start_file.proofs.memory.item.Goals as goal

pub returns-then-i-values : goal.returns-then-i-values
returns-then-i-values c =
    let kept : to_z w64 (of_z w64 c.number.result) ≡ c.number.result = search rules in
    let here = ap (λ v. Some (view v)) c.index-values-i.is ∙ get_item_within c.args.values.now c.args.i c.index-values-i.result (omega arith) in
    kept ∙ c.number.ensures ∙ ap number_of here

pub returns-else-i-values : goal.returns-else-i-values
returns-else-i-values c = ap number_of (get_item_past c.args.values.now c.args.i (omega arith))

use Rattle.std.proofs.Common.{◌∙◌, sym, ap, Some, arith}
use Rattle.toml.specs.View.{view}
use Rattle.toml.proofs.Views.{get_item_within, get_item_past}
use Rattle.start_faults.proofs.names.item.Goals as goal

pub returns-then-i-values : goal.returns-then-i-values
returns-then-i-values c =
    ap (λ v. Some (view v)) c.index-values-i.is ∙ get_item_within c.args.values.now c.args.i c.index-values-i.result (omega arith)

pub returns : goal.returns
returns c = get_item_past c.args.values.now c.args.i (omega arith)

use Rattle.std.proofs.Common.{◌∙◌, ℕ, List, ap}
use Rattle.std.specs.Borrow.{Bor}
use Rattle.std.specs.Prelude.{is_none}
use Rattle.toml.specs.View.{table_view}
use Rattle.start_faults.proofs.Walks.{none_told, none_unknown}
use Rattle.start_faults.proofs.touches.has_touch_keys.Goals as goal

pub returns : goal.returns
returns c =
    none_told (λ (k : Bor (List ℕ)). k.now) c.first_unknown.result c.is_none.result c.is_none.ensures
    ∙ (ap is_none c.first_unknown.ensures ∙ none_unknown (table_view c.args.table.now))

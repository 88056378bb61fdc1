use Rattle.std.proofs.Common.{ap, ◌∙◌}
use Rattle.label_infer.specs.Rows.{has_in}
use Rattle.label_infer.proofs.row.Row.copy.Goals as goal

pub returns : goal.returns
returns c = ap has_in (c.in_ok-words.ensures.items ∙ c.deref.ensures.value)

use Rattle.std.proofs.Common.{◌≡◌, ap, ◌∙◌, replicate, rules}
use Rattle.label_infer.specs.Rows.{has_in}
use Rattle.label_infer.proofs.Bits.{none_has}
use Rattle.label_infer.proofs.row.Row.empty.Goals as goal

pub returns : goal.returns
returns c =
    let all : c.in_ok-words.words.items ≡ replicate 48 0 = search rules in
    ap has_in all ∙ none_has 48

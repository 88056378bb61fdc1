use Rattle.std.proofs.Common.{◌∙◌, ap, ap₂, ◌++◌, codes}
use Rattle.lab_words.proofs.RefusalLemmas.{then_three}
use Rattle.lab_words.proofs.lines.unknown_line.Goals as goal

pub returns : goal.returns
returns c =
    then_three _ _ _ _ _ _ _ c.in_ok-extend_from_slice.ensures.items c.in_ok-extend_from_slice-2.ensures.items c.in_ok-extend_from_slice-3.ensures.items
    ∙ ap₂ ◌++◌ c.new-line.ensures.items (ap (λ l. codes "lab: " ++ l) (ap₂ ◌++◌ c.shown.ensures c.commands_there.ensures))

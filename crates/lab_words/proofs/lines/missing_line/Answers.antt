use Rattle.std.proofs.Common.{◌∙◌, ap, ap₂, ◌++◌, codes}
use Rattle.lab_words.proofs.RefusalLemmas.{then_three}
use Rattle.lab_words.proofs.lines.missing_line.Goals as goal

pub returns : goal.returns
returns c =
    then_three _ _ _ _ _ _ _ c.in_ok-extend_from_slice.ensures.items c.in_ok-extend_from_slice-2.ensures.items c.in_ok-extend_from_slice-3.ensures.items
    ∙ ap₂ ◌++◌ c.in_ok-line.ensures (ap₂ ◌++◌ c.missing.ensures (ap (λ l. codes " is missing; the form is " ++ l) c.form_told.ensures))

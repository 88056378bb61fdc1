use Rattle.std.proofs.Common.{◌∙◌, ap, ap₂, ◌++◌, codes}
use Rattle.lab_words.specs.Refusal.{gap, told}
use Rattle.lab_words.proofs.RefusalLemmas.{then_five}
use Rattle.lab_words.proofs.lines.wrong_line.Goals as goal

pub returns : goal.returns
returns c =
    then_five _ _ _ _ _ _ _ _ _ _ _ c.in_ok-extend_from_slice.ensures.items c.in_ok-extend_from_slice-2.ensures.items
    c.in_ok-extend_from_slice-3.ensures.items c.in_ok-extend_from_slice-4.ensures.items c.in_ok-extend_from_slice-5.ensures.items
    ∙ ap₂ ◌++◌ c.in_ok-line.ensures (ap₂ ◌++◌ c.shown.ensures (ap₂ ◌++◌ (c.gap.ensures ∙ ap gap c.next_shown-next.ensures)
    (ap₂ ◌++◌ (c.told.ensures ∙ ap told c.next_shown-next.ensures) (ap (λ l. codes " can't stand here; the form is " ++ l) c.form_told.ensures))))

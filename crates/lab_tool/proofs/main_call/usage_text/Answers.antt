use Rattle.std.proofs.Common.{ℕ, List, ◌++◌, ◌∙◌, ap, refl}
use Rattle.lab_tool.proofs.main_call.usage_text.Goals as goal

pub returns : goal.returns
returns c =
    let line = c.in_ok-text.text.items in
    (refl, line, c.in_ok-text.ensures, c.in_ok-extend_from_slice.ensures.items ∙ ap (λ (l : List ℕ). line ++ l) c.usage.ensures)

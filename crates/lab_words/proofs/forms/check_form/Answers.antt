use Rattle.std.proofs.Common.{◌∙◌, ap₂}
use Rattle.std.proofs.lemmas.Result.{IfOk-weaker}
use Rattle.clap.specs.Words.{with_rule}
use Rattle.lab_words.proofs.forms.check_form.Goals as goal

pub returns : goal.returns
returns c =
    let first = c.in_ok-arg.ensures.shape c.required_word.ensures.local ∙ ap₂ with_rule c.bare_form.ensures c.required_word.ensures.rule in
    IfOk-weaker c.arg-2.result _ _ (λ m h. h.shape c.flag.ensures.local ∙ ap₂ with_rule first c.flag.ensures.rule) c.arg-2.ensures

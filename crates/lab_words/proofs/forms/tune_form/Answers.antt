use Rattle.std.proofs.Common.{◌∙◌, ap₂}
use Rattle.std.proofs.lemmas.Result.{IfOk-weaker}
use Rattle.clap.specs.Words.{with_rule}
use Rattle.lab_words.proofs.forms.tune_form.Goals as goal

pub returns : goal.returns
returns c =
    let first = c.in_ok-arg.ensures.shape c.mark.ensures.local ∙ ap₂ with_rule c.in_ok-runs_form.ensures c.mark.ensures.rule in
    IfOk-weaker c.arg-2.result _ _ (λ m h. h.shape c.option.ensures.local ∙ ap₂ with_rule first c.option.ensures.rule) c.arg-2.ensures

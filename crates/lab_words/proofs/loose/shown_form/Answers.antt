use Rattle.std.proofs.Common.{◌∙◌, ap₂}
use Rattle.std.proofs.lemmas.Result.{IfOk-weaker}
use Rattle.clap.specs.Words.{with_rule}
use Rattle.lab_words.proofs.loose.shown_form.Goals as goal

pub returns : goal.returns
returns c =
    IfOk-weaker c.arg.result _ _ (λ m h. h.shape c.flag.ensures.local ∙ ap₂ with_rule c.in_ok-runs_form.ensures c.flag.ensures.rule) c.arg.ensures
